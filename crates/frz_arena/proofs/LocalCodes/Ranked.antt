-- The best rank of some codes tells the code that the mover chooses.
use Rattle.std.proofs.Common.{◌≡◌, ◌<◌, ◌≤◌, ◌+◌, ◌-◌, ◌^◌, ℕ, min, Bool, true, false, List, [], ◌∷◌, ◌++◌, ◌⊎◌, inl, inr, refl, sym, subst, ap, ◌∙◌, arith, if◌then◌else◌}
use Rattle.std.specs.Prelude.{◌==◌, nat_lt}
use Rattle.std.specs.List.{Contains}
use Rattle.std.proofs.lemmas.Bool.{cases_Bool}
use Rattle.std.proofs.lemmas.Bool.Decides.{nat_tests}
use Rattle.frz_arena.specs.LocalCodes.{chosen_code, turn_code}
use Rattle.frz_arena.specs.Ranks.{is_sought, is_shunned, rank_of, last_rank, best_rank}
use Rattle.frz_arena.specs.Best.{IsBest}
use Rattle.frz_arena.specs.declared.best.Best.{Best}
use Rattle.frz_arena.proofs.Lists.Members.{none_in_empty, first_in, later_in, in_cases}
use Rattle.frz_arena.proofs.LocalCodes.ChosenCodes.{Kinds, wins_first, failures_first, cases_le, failure_above, chosen_is_least, chosen_is_greatest, chosen_is_hold}

min_shift : (a x y z : ℕ) → x ≡ min y z → min a x ≡ min (min a y) z
min_shift a x y z e = omega arith

min_swap : (a b : ℕ) → min a b ≡ min b a
min_swap a b = omega arith

best_push : (own : Bool) (cs : List ℕ) (c : ℕ) →
    best_rank own (cs ++ c ∷ []) ≡ min (best_rank own cs) (rank_of own c)
best_push own [] c = min_swap (rank_of own c) (last_rank own)
best_push own (d ∷ cs) c =
    min_shift (rank_of own d) (best_rank own (cs ++ c ∷ [])) (best_rank own cs) (rank_of own c)
    (best_push own cs c)

in_pushed : (xs : List ℕ) (y x : ℕ) → Contains (xs ++ y ∷ []) x → Contains xs x ⊎ (y ≡ x)
in_pushed [] y x h =
    elim (in_cases y [] x h) [ inl e ↦ inr e | inr i ↦ absurd (none_in_empty x i) ]
in_pushed (z ∷ xs) y x h =
    elim (in_cases z (xs ++ y ∷ []) x h) [
      | inl e ↦ inl (subst (λ w. Contains (z ∷ xs) w) e (first_in z xs))
      | inr i ↦ elim (in_pushed xs y x i) [ inl k ↦ inl (later_in z xs x k) | inr e ↦ inr e ]
    ]

-- one code more
pub best_more : (own : Bool) (cs : List ℕ) (c : ℕ) (old new : Best) → c < 2 ^ 32 →
    new.own ≡ old.own → new.rank ≡ min old.rank (rank_of old.own c) → IsBest own cs old →
    IsBest own (cs ++ c ∷ []) new
best_more own cs c old new small turn rank h = record {
  turn = turn ∙ h.turn;
  small = λ x i. elim (in_pushed cs c x i)
      [ inl k ↦ h.small x k | inr e ↦ subst (λ w. w < 2 ^ 32) e small ];
  rank =
      rank ∙ ap (λ o. min old.rank (rank_of o c)) h.turn
      ∙ ap (λ r. min r (rank_of own c)) h.rank ∙ sym (best_push own cs c);
}

-- what the rank of a code says of it
abbrev Seeks : (own : Bool) → ℕ → Type 0
Seeks own c = (is_sought own c ≡ true) × (rank_of own c ≡ c)

abbrev Shuns : (own : Bool) → ℕ → Type 0
Shuns own c =
    (is_sought own c ≡ false) × (is_shunned own c ≡ true) × (rank_of own c + c ≡ 2 ^ 64 - 1)

abbrev Holds : (own : Bool) → ℕ → Type 0
Holds own c =
    (is_sought own c ≡ false) × (is_shunned own c ≡ false) × (rank_of own c ≡ 2 ^ 32)

seeks_shuns_or_holds : (own : Bool) (c : ℕ) → c < 2 ^ 32 → Seeks own c ⊎ (Shuns own c ⊎ Holds own c)
seeks_shuns_or_holds own c small =
    elim (cases_Bool (is_sought own c)) [
      | inl t ↦ inl (t, rw t refl)
      | inr f ↦ elim (cases_Bool (is_shunned own c)) [
        | inl s ↦ (
            let e : rank_of own c ≡ 2 ^ 64 - 1 - c = rw (f, s) refl in
            inr (inl (f, s, omega (arith, e, small))))
        | inr n ↦ inr (inr (f, n, rw (f, n) refl))
      ]
    ]

last_high : (own : Bool) → 2 ^ 64 - 2 ≤ last_rank own
last_high true = omega arith
last_high false = omega arith

last_shunned : (own : Bool) (c r : ℕ) → is_shunned own c ≡ true → r + c ≡ 2 ^ 64 - 1 →
    r ≤ last_rank own
last_shunned true c r s e = let k = failure_above c s in omega arith
last_shunned false c r s e = omega arith

last_below : (own : Bool) (c : ℕ) → c < 2 ^ 32 → rank_of own c ≤ last_rank own
last_below own c small =
    let high = last_high own in
    elim (seeks_shuns_or_holds own c small) [
      | inl s ↦ (let e = s.1 in omega arith)
      | inr h ↦ elim h [
        | inl s ↦ last_shunned own c (rank_of own c) s.1 s.2
        | inr s ↦ (let e = s.2 in omega arith)
      ]
    ]

best_below : (own : Bool) (cs : List ℕ) (x : ℕ) → Contains cs x → best_rank own cs ≤ rank_of own x
best_below own [] x h = absurd (none_in_empty x h)
best_below own (c ∷ cs) x h =
    elim (in_cases c cs x h) [
      | inl e ↦ (let k = ap (rank_of own) e in omega arith)
      | inr i ↦ (let k = best_below own cs x i in omega arith)
    ]

best_there : (own : Bool) (c : ℕ) (cs : List ℕ) → ((x : ℕ) → Contains (c ∷ cs) x → x < 2 ^ 32) →
    (w : ℕ) × Contains (c ∷ cs) w × (best_rank own (c ∷ cs) ≡ rank_of own w)
best_there own c [] small =
    let last = last_below own c (small c (first_in c [])) in
    (c, first_in c [], omega arith)
best_there own c (d ∷ cs) small =
    let r = best_there own d cs (λ x i. small x (later_in c (d ∷ cs) x i)) in
    elim (cases_le (rank_of own c) (best_rank own (d ∷ cs))) [
      | inl e ↦ (c, first_in c (d ∷ cs), e)
      | inr e ↦ (r.0, later_in c (d ∷ cs) r.0 r.1, e ∙ r.2)
    ]

-- the code that a rank tells
abbrev pub code_of_rank : ℕ → ℕ
code_of_rank r =
    if nat_lt r (2 ^ 32) then r + 2 else (if r == 2 ^ 32 then 1 else 2 ^ 64 - 1 - r + 2)

pub low_rank : (r : ℕ) → r < 2 ^ 32 → r + 2 ≡ code_of_rank r
low_rank r l = grind (arith, nat_tests)

pub rank_of_held : (r : ℕ) → r ≡ 2 ^ 32 → 1 ≡ code_of_rank r
rank_of_held r e = sym (ap code_of_rank e)

pub high_rank : (r : ℕ) → 2 ^ 32 < r → 2 ^ 64 - 1 - r + 2 ≡ code_of_rank r
high_rank r l = grind (arith, nat_tests)

sought_told : (r w : ℕ) → r ≡ w → w < 2 ^ 32 → w + 2 ≡ code_of_rank r
sought_told r w e small =
    ap (λ n. n + 2) (sym e) ∙ low_rank r (omega arith)

shunned_told : (r w : ℕ) → r + w ≡ 2 ^ 64 - 1 → w < 2 ^ 32 → w + 2 ≡ code_of_rank r
shunned_told r w e small =
    let back : w + 2 ≡ 2 ^ 64 - 1 - r + 2 = omega arith in back ∙ high_rank r (omega arith)

own_kinds : (own : Bool) → Kinds (is_sought own) (is_shunned own)
own_kinds true = wins_first
own_kinds false = failures_first

some_turn : (own : Bool) (c : ℕ) (cs : List ℕ) →
    turn_code own (c ∷ cs) ≡ chosen_code (is_sought own) (is_shunned own) (c ∷ cs)
some_turn true c cs = refl
some_turn false c cs = refl

best_is_chosen : (own : Bool) (cs : List ℕ) (w : ℕ) → ((x : ℕ) → Contains cs x → x < 2 ^ 32) →
    Contains cs w → best_rank own cs ≡ rank_of own w →
    chosen_code (is_sought own) (is_shunned own) cs ≡ code_of_rank (best_rank own cs)
best_is_chosen own cs w small i best =
    let low = small w i in
    elim (seeks_shuns_or_holds own w low) [
      | inl s ↦ (
          let e : chosen_code (is_sought own) (is_shunned own) cs ≡ w + 2 =
          chosen_is_least (own_kinds own) cs w i s.0
          (λ x j t. elim (seeks_shuns_or_holds own x (small x j)) [
            | inl y ↦ (let k = best_below own cs x j in let p = s.1 in let q = y.1 in omega arith)
            | inr y ↦ elim y [ inl z ↦ absurd (let f = z.0 in cc) | inr z ↦ absurd (let f = z.0 in cc) ]
          ]) in
          e ∙ sought_told (best_rank own cs) w (best ∙ s.1) low)
      | inr h ↦ elim h [
        | inl s ↦ (
            let e : chosen_code (is_sought own) (is_shunned own) cs ≡ w + 2 =
            chosen_is_greatest (own_kinds own) cs w i
            (λ x j. elim (seeks_shuns_or_holds own x (small x j)) [
              | inl y ↦ absurd (let k = best_below own cs x j in let p = s.2 in let q = y.1 in
                  let l = small x j in omega arith)
              | inr y ↦ elim y [
                | inl z ↦ (z.1, (let k = best_below own cs x j in let p = s.2 in let q = z.2 in omega arith))
                | inr z ↦ absurd (let k = best_below own cs x j in let p = s.2 in let q = z.2 in omega arith)
              ]
            ]) in
            e ∙ shunned_told (best_rank own cs) w (ap (λ r. r + w) best ∙ s.2) low)
        | inr s ↦ (
            let e : chosen_code (is_sought own) (is_shunned own) cs ≡ 1 =
            chosen_is_hold (is_sought own) (is_shunned own) cs w i s.1
            (λ x j. elim (seeks_shuns_or_holds own x (small x j)) [
              | inl y ↦ absurd (let k = best_below own cs x j in let p = s.2 in let q = y.1 in
                  let l = small x j in omega arith)
              | inr y ↦ elim y [ inl z ↦ z.0 | inr z ↦ z.0 ]
            ]) in
            e ∙ rank_of_held (best_rank own cs) (best ∙ s.2))
      ]
    ]

pub code_told : (own : Bool) (cs : List ℕ) (best : Best) → IsBest own cs best →
    code_of_rank best.rank ≡ turn_code own cs
code_told true [] best h = ap code_of_rank h.rank
code_told false [] best h = ap code_of_rank h.rank
code_told own (c ∷ cs) best h =
    let t = best_there own c cs h.small in
    ap code_of_rank h.rank
    ∙ sym (some_turn own c cs ∙ best_is_chosen own (c ∷ cs) t.0 h.small t.1 t.2)
