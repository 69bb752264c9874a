-- Wins and failures among the codes.
use Rattle.std.proofs.Common.{◌≡◌, ℕ, ◌+◌, ◌*◌, ◌%◌, ◌<◌, ◌≤◌, ◌⊎◌, Bool, true, false, not, ◌==◌, nat_lt, refl, sym, ◌∙◌, inl, inr, arith, eqb-true, ltb-true}
use Rattle.std.proofs.lemmas.Bool.{and_parts, and_from, lt-ltb, eq-eqb, false_from_ne_true, cases_eq, true≢false}
use Rattle.frz_arena.specs.Codes.{is_win, is_failure}
use Rattle.frz_retro.specs.Kinds.{is_of}

pub of_low : (w : Bool) (c : ℕ) → is_of w c ≡ true → 2 ≤ c
unfolding is_of
of_low true c h =
    let even = eqb-true (c % 2) 0 (and_parts (c % 2 == 0) (nat_lt 0 c) h).0 in
    let some = ltb-true 0 c (and_parts (c % 2 == 0) (nat_lt 0 c) h).1 in
    omega (arith, even, some)
of_low false c h =
    let l = ltb-true 1 c (and_parts (c % 2 == 1) (nat_lt 1 c) h).1 in omega (arith, l)

even_of : (c : ℕ) → is_of true c ≡ true → c % 2 ≡ 0
unfolding is_of
even_of c h = eqb-true (c % 2) 0 (and_parts (c % 2 == 0) (nat_lt 0 c) h).0

odd_of : (c : ℕ) → is_of false c ≡ true → c % 2 ≡ 1
unfolding is_of
odd_of c h = eqb-true (c % 2) 1 (and_parts (c % 2 == 1) (nat_lt 1 c) h).0

of_even : (c : ℕ) → 2 ≤ c → c % 2 ≡ 0 → is_of true c ≡ true
unfolding is_of
of_even c h e =
    and_from (c % 2 == 0) (nat_lt 0 c) (eq-eqb (c % 2) 0 e) (lt-ltb 0 c (omega (arith, h)))

of_odd : (c : ℕ) → 2 ≤ c → c % 2 ≡ 1 → is_of false c ≡ true
unfolding is_of
of_odd c h e =
    and_from (c % 2 == 1) (nat_lt 1 c) (eq-eqb (c % 2) 1 e) (lt-ltb 1 c (omega (arith, h)))

-- not both
pub of_one : (w : Bool) (c : ℕ) → is_of w c ≡ true → is_of (not w) c ≡ true → ⊥
of_one true c h e = let a = even_of c h in let b = odd_of c e in omega (arith, a, b)
of_one false c h e = let a = odd_of c h in let b = even_of c e in omega (arith, a, b)

pub of_not : (w : Bool) (c : ℕ) → is_of w c ≡ true → is_of (not w) c ≡ false
of_not w c h = false_from_ne_true (is_of (not w) c) (λ e. of_one w c h e)

even_or_odd : (c : ℕ) → (c % 2 ≡ 0) ⊎ (c % 2 ≡ 1)
even_or_odd c = elim (cases_eq (c % 2) 0) [ inl e ↦ inl e | inr n ↦ inr (omega (arith, n)) ]

-- one of both
pub of_some : (w : Bool) (c : ℕ) → 2 ≤ c → (is_of w c ≡ true) ⊎ (is_of (not w) c ≡ true)
of_some true c h = elim (even_or_odd c) [ inl e ↦ inl (of_even c h e) | inr e ↦ inr (of_odd c h e) ]
of_some false c h =
    elim (even_or_odd c) [ inl e ↦ inr (of_even c h e) | inr e ↦ inl (of_odd c h e) ]

pub of_other : (w : Bool) (c : ℕ) → 2 ≤ c → is_of w c ≡ false → is_of (not w) c ≡ true
of_other w c h e =
    elim (of_some w c h) [ inl t ↦ absurd (true≢false (sym t ∙ e)) | inr t ↦ t ]

-- the same after two plies
pub of_more : (w : Bool) (c : ℕ) → is_of w c ≡ true → is_of w (c + 2) ≡ true
of_more true c h = let a = even_of c h in of_even (c + 2) (omega arith) (omega (arith, a))
of_more false c h = let a = odd_of c h in of_odd (c + 2) (omega arith) (omega (arith, a))

-- codes of one kind, in order by plies
pub of_order : (w : Bool) (k c d : ℕ) → is_of w c ≡ true → is_of w d ≡ true → c < 2 + 2 * k →
    2 * k ≤ d → c ≤ d
of_order true k c d h e x y = let a = even_of c h in let b = even_of d e in omega (arith, a, b)
of_order false k c d h e x y = let a = odd_of c h in let b = odd_of d e in omega (arith, a, b)

-- by the words of the codes
pub win_is : (c : ℕ) → is_win c ≡ is_of true c
unfolding is_of
win_is c = refl

pub failure_is : (c : ℕ) → is_failure c ≡ is_of false c
unfolding is_of
failure_is c = refl
