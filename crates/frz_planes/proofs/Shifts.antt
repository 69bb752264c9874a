-- Rows joined with those some places before or behind.
use Rattle.std.proofs.Common.{◌≡◌, ℕ, ◌+◌, ◌-◌, ◌%◌, ◌/◌, ◌<◌, ◌≤◌, ◌≢◌, List, get_or, length, set, bit_and, bit_or, Bool, true, false, ◌&&◌, ◌||◌, ap, sym, ◌∙◌, arith, refl, inl, inr, get_or-set_same, get_or-set_other}
use Rattle.std.specs.Prelude.{◌==◌, nat_le, nat_lt, not}
use Rattle.std.specs.List.{list_all}
use Rattle.std.proofs.lemmas.Bool.{cases_eq, cases_lt, eqb-true}
use Rattle.std.proofs.lemmas.Bool.Decides.{nat_tests}
use Rattle.frz_squares.specs.Squares.{squares}
use Rattle.frz_squares.specs.SquareSets.{has_square}
use Rattle.frz_squares.specs.Steps.{any_step}
use Rattle.frz_squares.proofs.Lemmas.{each_square, has-and, has-or, beside, row, around_is}
use Rattle.frz_planes.specs.declared.masks.TheConstants.{BEHIND_FILE_A, BEFORE_FILE_H}
use Rattle.frz_planes.proofs.Rows.{kept, has-kept, has-ones}
use Rattle.frz_planes.specs.Planes.{has_pair, IsPlaneOf}

-- the rows from lo up to i are made by f, and the others are as they were
pub record AreBetween (f : ℕ → ℕ → ℕ) (lo i : ℕ) (old new : List ℕ) : Type 0 where
  pub made : (k : ℕ) → lo ≤ k → k < i → get_or new k 0 ≡ f k (get_or old k 0)
  pub below : (k : ℕ) → k < lo → get_or new k 0 ≡ get_or old k 0
  pub from : (k : ℕ) → i ≤ k → get_or new k 0 ≡ get_or old k 0

pub one_more : (f : ℕ → ℕ → ℕ) (lo i : ℕ) (old new : List ℕ) → lo ≤ i → i < length new →
    AreBetween f lo i old new → AreBetween f lo (i + 1) old (set new i (f i (get_or new i 0)))
one_more f lo i old new l m h =
    let w = f i (get_or new i 0) in
    record {
      made = λ k a b. elim (cases_eq k i) [
        | inl e ↦ ap (λ j. get_or (set new i w) j 0) e ∙ get_or-set_same new i w 0 m
            ∙ ap (f i) (h.from i (omega arith)) ∙ sym (ap (λ j. f j (get_or old j 0)) e)
        | inr ne ↦ get_or-set_other new i k w 0 ne ∙ h.made k a (omega arith)
      ];
      below = λ k a. get_or-set_other new i k w 0 (omega arith) ∙ h.below k a;
      from = λ k a. get_or-set_other new i k w 0 (omega arith) ∙ h.from k (omega arith);
    }

-- the plane after the rows from lo up to hi are made
pub between_is : (f : ℕ → ℕ → ℕ) (extra : ℕ → ℕ → Bool) (lo hi i : ℕ) (old new : List ℕ) →
    AreBetween f lo i old new → i ≡ hi →
    ((a b : ℕ) → a < lo → extra a b ≡ false) →
    ((a b : ℕ) → hi ≤ a → a < 64 → extra a b ≡ false) →
    ((a b : ℕ) → lo ≤ a → a < hi → b < 64 →
    has_square (f a (get_or old a 0)) b ≡ (has_pair old a b || extra a b)) →
    IsPlaneOf new (λ a b. has_pair old a b || extra a b)
between_is f extra lo hi i old new h e below above each a b la lb =
    elim (cases_lt a lo) [
      | inl l ↦ ap (λ w. has_square w b) (h.below a l)
          ∙ unchanged (has_pair old a b) (extra a b) (below a b l)
      | inr l ↦ elim (cases_lt a hi) [
        | inl m ↦ ap (λ w. has_square w b) (h.made a l (omega arith)) ∙ each a b l m lb
        | inr m ↦ ap (λ w. has_square w b) (h.from a (omega arith))
            ∙ unchanged (has_pair old a b) (extra a b) (above a b m la)
      ]
    ]
  where
    unchanged : (x y : Bool) → y ≡ false → x ≡ (x || y)
    unchanged true y e = refl
    unchanged false y e = sym e

-- a table of rows that are full where the test holds, and empty elsewhere
has-mask : (test : ℕ → Bool) (xs : List ℕ) →
    list_all (λ k. get_or xs k 0 == kept (test k) 18446744073709551615) squares ≡ true →
    (k b : ℕ) → k < 64 → b < 64 → has_square (get_or xs k 0) b ≡ test k
has-mask test xs all k b lk lb =
    ap (λ w. has_square w b)
    (eqb-true (get_or xs k 0) (kept (test k) 18446744073709551615)
    (each_square (λ j. get_or xs j 0 == kept (test j) 18446744073709551615) all k lk))
    ∙ has-kept (test k) 18446744073709551615 b ∙ ap (λ t. test k && t) (has-ones b lb)
    ∙ and_true (test k)
  where
    and_true : (t : Bool) → (t && true) ≡ t
    and_true true = refl
    and_true false = refl

has-behind : (k b : ℕ) → k < 64 → b < 64 →
    has_square (get_or BEHIND_FILE_A k 0) b ≡ not (k % 8 == 0)
unfolding squares
has-behind k b lk lb = has-mask (λ j. not (j % 8 == 0)) BEHIND_FILE_A refl k b lk lb

has-before : (k b : ℕ) → k < 64 → b < 64 →
    has_square (get_or BEFORE_FILE_H k 0) b ≡ not (k % 8 == 7)
unfolding squares
has-before k b lk lb = has-mask (λ j. not (j % 8 == 7)) BEFORE_FILE_H refl k b lk lb

guard_false : (t x : Bool) → t ≡ false → (t && x) ≡ false
guard_false t x e = rw e

guard_true : (t x : Bool) → t ≡ true → x ≡ (t && x)
guard_true t x e = rw e

and_swap : (x y : Bool) → (x && y) ≡ (y && x)
and_swap true true = refl
and_swap true false = refl
and_swap false true = refl
and_swap false false = refl

is_not : (n m : ℕ) → n ≡ m → not (n == m) ≡ false
is_not n m e = grind (arith, nat_tests)

is_other : (n m : ℕ) → n ≢ m → not (n == m) ≡ true
is_other n m e = grind (arith, nat_tests)

has-masked : (v w m b : ℕ) (t : Bool) → has_square m b ≡ t →
    has_square (bit_or v (bit_and w m)) b ≡ (has_square v b || (t && has_square w b))
has-masked v w m b t e =
    has-or v (bit_and w m) b
    ∙ ap (λ x. has_square v b || x)
    (has-and w m b ∙ and_swap (has_square w b) (has_square m b) ∙ ap (λ x. x && has_square w b) e)

pub file_on : (old p : List ℕ) (i : ℕ) (new : List ℕ) → i ≡ 64 →
    AreBetween (λ k v. bit_or v (bit_and (get_or p (k - 1) 0) (get_or BEHIND_FILE_A k 0))) 1 i old new
    → IsPlaneOf new (λ a b. has_pair old a b || (not (a % 8 == 0) && has_pair p (a - 1) b))
file_on old p i new e h =
    between_is (λ k v. bit_or v (bit_and (get_or p (k - 1) 0) (get_or BEHIND_FILE_A k 0)))
    (λ a b. not (a % 8 == 0) && has_pair p (a - 1) b) 1 64 i old new h e
    (λ a b l. guard_false (not (a % 8 == 0)) (has_pair p (a - 1) b) (is_not (a % 8) 0 (omega arith)))
    (λ a b l m. absurd (omega arith))
    (λ a b l m lb. has-masked (get_or old a 0) (get_or p (a - 1) 0) (get_or BEHIND_FILE_A a 0) b
    (not (a % 8 == 0)) (has-behind a b m lb))

pub file_back : (old p : List ℕ) (i : ℕ) (new : List ℕ) → i ≡ 63 →
    AreBetween (λ k v. bit_or v (bit_and (get_or p (k + 1) 0) (get_or BEFORE_FILE_H k 0))) 0 i old new
    → IsPlaneOf new (λ a b. has_pair old a b || (not (a % 8 == 7) && has_pair p (a + 1) b))
file_back old p i new e h =
    between_is (λ k v. bit_or v (bit_and (get_or p (k + 1) 0) (get_or BEFORE_FILE_H k 0)))
    (λ a b. not (a % 8 == 7) && has_pair p (a + 1) b) 0 63 i old new h e
    (λ a b l. absurd (omega arith))
    (λ a b l m. guard_false (not (a % 8 == 7)) (has_pair p (a + 1) b)
    (is_not (a % 8) 7 (omega arith)))
    (λ a b l m lb. has-masked (get_or old a 0) (get_or p (a + 1) 0) (get_or BEFORE_FILE_H a 0) b
    (not (a % 8 == 7)) (has-before a b (omega arith) lb))

pub rank_on : (old p : List ℕ) (i : ℕ) (new : List ℕ) → i ≡ 64 →
    AreBetween (λ k v. bit_or v (get_or p (k - 8) 0)) 8 i old new
    → IsPlaneOf new (λ a b. has_pair old a b || (not (a / 8 == 0) && has_pair p (a - 8) b))
rank_on old p i new e h =
    between_is (λ k v. bit_or v (get_or p (k - 8) 0))
    (λ a b. not (a / 8 == 0) && has_pair p (a - 8) b) 8 64 i old new h e
    (λ a b l. guard_false (not (a / 8 == 0)) (has_pair p (a - 8) b) (is_not (a / 8) 0 (omega arith)))
    (λ a b l m. absurd (omega arith))
    (λ a b l m lb. has-or (get_or old a 0) (get_or p (a - 8) 0) b
    ∙ ap (λ x. has_pair old a b || x)
    (guard_true (not (a / 8 == 0)) (has_pair p (a - 8) b) (is_other (a / 8) 0 (omega arith))))

pub rank_back : (old p : List ℕ) (i : ℕ) (new : List ℕ) → i ≡ 56 →
    AreBetween (λ k v. bit_or v (get_or p (k + 8) 0)) 0 i old new
    → IsPlaneOf new (λ a b. has_pair old a b || (not (a / 8 == 7) && has_pair p (a + 8) b))
rank_back old p i new e h =
    between_is (λ k v. bit_or v (get_or p (k + 8) 0))
    (λ a b. not (a / 8 == 7) && has_pair p (a + 8) b) 0 56 i old new h e
    (λ a b l. absurd (omega arith))
    (λ a b l m. guard_false (not (a / 8 == 7)) (has_pair p (a + 8) b)
    (is_not (a / 8) 7 (omega arith)))
    (λ a b l m lb. has-or (get_or old a 0) (get_or p (a + 8) 0) b
    ∙ ap (λ x. has_pair old a b || x)
    (guard_true (not (a / 8 == 7)) (has_pair p (a + 8) b) (is_other (a / 8) 7 (omega arith))))

and_same : (t x y : Bool) → (t ≡ true → x ≡ y) → (t && x) ≡ (t && y)
and_same true x y h = h refl
and_same false x y h = refl

or_same : (a b x y : Bool) → a ≡ x → b ≡ y → (a || b) ≡ (x || y)
or_same a b x y e f = ap (λ t. t || b) e ∙ ap (λ t. x || t) f

or_group : (x y z : Bool) → ((x || y) || z) ≡ (x || (y || z))
or_group true y z = refl
or_group false y z = refl

first_rank : (a : ℕ) → not (a / 8 == 0) ≡ nat_le 8 a
first_rank a = grind (arith, nat_tests)

last_rank : (a : ℕ) → a < 64 → not (a / 8 == 7) ≡ nat_lt a 56
last_rank a l = grind (arith, nat_tests)

within : (a : ℕ) → nat_lt a 56 ≡ true → a + 8 < 64
within a t = grind (arith, nat_tests)

-- the planes that a white king's step is made of
pub white_steps : (p none one both rows up all : List ℕ) → IsPlaneOf none (λ a b. false) →
    IsPlaneOf one (λ a b. has_pair none a b || (not (a % 8 == 0) && has_pair p (a - 1) b)) →
    IsPlaneOf both (λ a b. has_pair one a b || (not (a % 8 == 7) && has_pair p (a + 1) b)) →
    IsPlaneOf rows (λ a b. has_pair both a b || has_pair p a b) →
    IsPlaneOf up (λ a b. has_pair both a b || (not (a / 8 == 0) && has_pair rows (a - 8) b)) →
    IsPlaneOf all (λ a b. has_pair up a b || (not (a / 8 == 7) && has_pair rows (a + 8) b)) →
    IsPlaneOf all (λ a b. any_step a (λ c. has_pair p c b))
white_steps p none one both rows up all is_none is_one is_both is_rows is_up is_all a b la lb =
    let q = λ (c : ℕ). has_pair p c b in
    let side : (k : ℕ) → k < 64 → has_pair both k b ≡ beside q k = λ k l. is_both k b l lb
    ∙ ap (λ t. t || (not (k % 8 == 7) && q (k + 1)))
    (is_one k b l lb ∙ ap (λ t. t || (not (k % 8 == 0) && q (k - 1))) (is_none k b l lb)) in
    let rank : (k : ℕ) → k < 64 → has_pair rows k b ≡ row q k = λ k l. is_rows k b l lb
    ∙ ap (λ t. t || q k) (side k l) in
    is_all a b la lb
    ∙ ap (λ t. t || (not (a / 8 == 7) && has_pair rows (a + 8) b)) (is_up a b la lb)
    ∙ or_group (has_pair both a b) (not (a / 8 == 0) && has_pair rows (a - 8) b)
    (not (a / 8 == 7) && has_pair rows (a + 8) b)
    ∙ or_same (has_pair both a b)
    ((not (a / 8 == 0) && has_pair rows (a - 8) b)
    || (not (a / 8 == 7) && has_pair rows (a + 8) b)) (beside q a)
    ((nat_le 8 a && row q (a - 8)) || (nat_lt a 56 && row q (a + 8)))
    (side a la)
    (or_same (not (a / 8 == 0) && has_pair rows (a - 8) b)
    (not (a / 8 == 7) && has_pair rows (a + 8) b) (nat_le 8 a && row q (a - 8))
    (nat_lt a 56 && row q (a + 8))
    (ap (λ t. t && has_pair rows (a - 8) b) (first_rank a)
    ∙ and_same (nat_le 8 a) (has_pair rows (a - 8) b) (row q (a - 8))
    (λ t. rank (a - 8) (omega arith)))
    (ap (λ t. t && has_pair rows (a + 8) b) (last_rank a la)
    ∙ and_same (nat_lt a 56) (has_pair rows (a + 8) b) (row q (a + 8))
    (λ t. rank (a + 8) (within a t))))
    ∙ around_is q a la
