-- Rows of planes, one by one.
use Rattle.std.proofs.Common.{◌≡◌, ℕ, ◌+◌, ◌*◌, ◌%◌, ◌^◌, ◌<◌, ◌≤◌, List, get_or, length, set, replicate, bit_and, bit_or, bit_xor, min, w64, cond, not, Bool, true, false, ◌&&◌, ◌||◌, ap, sym, ◌∙◌, arith, refl, inl, inr, zero, suc, get_or-set_same, get_or-set_other}
use Rattle.std.specs.Prelude.{◌==◌}
use Rattle.std.specs.Int.{bit_at, bit_not}
use Rattle.std.proofs.lemmas.Bool.{cases_eq}
use Rattle.std.proofs.lemmas.Bool.Decides.{eqb_tells}
use Rattle.std.proofs.lemmas.Nat.Bits.{bit_at_set_same, bit_at_set_other, bit_at_clear_same, bit_at_clear_other, bit_at_xor, bit_at_and, bit_at-lt}
use Rattle.std.proofs.lemmas.List.{get_or-replicate}
use Rattle.frz_squares.specs.SquareSets.{has_square, set_of}
use Rattle.frz_squares.proofs.Lemmas.{has-and, has-or, has-zero, has-set_of}
use Rattle.frz_planes.specs.Planes.{has_pair, IsPlaneOf}

-- the rows below i are made by f, and those from i on are as they were
abbrev pub AreMade : (ℕ → ℕ → ℕ) → ℕ → List ℕ → List ℕ → Type 0
AreMade f i old new =
    ((k : ℕ) → k < i → get_or new k 0 ≡ f k (get_or old k 0))
    × ((k : ℕ) → i ≤ k → get_or new k 0 ≡ get_or old k 0)

-- where all rows are made, the plane has the pairs that the made rows have
pub made_is : (f : ℕ → ℕ → ℕ) (test : ℕ → ℕ → Bool) (i : ℕ) (old new : List ℕ) →
    AreMade f i old new → 64 ≤ i →
    ((a b : ℕ) → a < 64 → b < 64 → has_square (f a (get_or old a 0)) b ≡ test a b) →
    IsPlaneOf new test
made_is f test i old new h m each a b la lb =
    ap (λ w. has_square w b) (h.0 a (omega arith)) ∙ each a b la lb

-- the rows below i are those that f gives
abbrev pub AreFilled : (ℕ → ℕ) → ℕ → List ℕ → Type 0
AreFilled f i new = (k : ℕ) → k < i → get_or new k 0 ≡ f k

pub filled_more : (f : ℕ → ℕ) (i w : ℕ) (new : List ℕ) → i < length new → w ≡ f i →
    AreFilled f i new → AreFilled f (i + 1) (set new i w)
filled_more f i w new l e h k m =
    elim (cases_eq k i) [
      | inl s ↦ ap (λ j. get_or (set new i w) j 0) s ∙ get_or-set_same new i w 0 l ∙ e
          ∙ ap f (sym s)
      | inr ne ↦ get_or-set_other new i k w 0 ne ∙ h k (omega arith)
    ]

pub filled_is : (f : ℕ → ℕ) (test : ℕ → ℕ → Bool) (i : ℕ) (new : List ℕ) → AreFilled f i new →
    64 ≤ i → ((a b : ℕ) → a < 64 → b < 64 → has_square (f a) b ≡ test a b) → IsPlaneOf new test
filled_is f test i new h m each a b la lb =
    ap (λ w. has_square w b) (h a (omega arith)) ∙ each a b la lb

-- a word or none
abbrev pub kept : Bool → ℕ → ℕ
kept t w = cond t w 0

pub has-kept : (t : Bool) (w b : ℕ) → has_square (kept t w) b ≡ (t && has_square w b)
has-kept true w b = refl
has-kept false w b = has-zero b

and_swap : (x y : Bool) → (x && y) ≡ (y && x)
and_swap true true = refl
and_swap true false = refl
and_swap false true = refl
and_swap false false = refl

-- the rows that each function makes
pub has-cut : (v w b : ℕ) → has_square (bit_and v w) b ≡ (has_square v b && has_square w b)
has-cut v w b = has-and v w b

pub has-joined : (v w b : ℕ) → has_square (bit_or v w) b ≡ (has_square v b || has_square w b)
has-joined v w b = has-or v w b

pub has-common : (v w x b : ℕ) →
    has_square (bit_or v (bit_and w x)) b ≡ (has_square v b || (has_square w b && has_square x b))
has-common v w x b =
    has-or v (bit_and w x) b ∙ ap (λ t. has_square v b || t) (has-and w x b)

pub has-kept_row : (v x b : ℕ) (t : Bool) →
    has_square (bit_and v (kept t x)) b ≡ (has_square v b && (t && has_square x b))
has-kept_row v x b t =
    has-and v (kept t x) b ∙ ap (λ y. has_square v b && y) (has-kept t x b)

pub has-joined_row : (v w x b : ℕ) (t : Bool) →
    has_square (bit_or v (bit_and w (kept t x))) b
    ≡ (has_square v b || (has_square w b && (t && has_square x b)))
has-joined_row v w x b t =
    has-or v (bit_and w (kept t x)) b ∙ ap (λ y. has_square v b || y) (has-kept_row w x b t)

xor_bits : (m n : ℕ) → m < 2 → n < 2 → ((m + min m n) % 2 == 1) ≡ ((m == 1) && not (n == 1))
xor_bits zero zero hm hn = refl
xor_bits zero (suc zero) hm hn = refl
xor_bits (suc zero) zero hm hn = refl
xor_bits (suc zero) (suc zero) hm hn = refl
xor_bits (suc (suc m)) n hm hn = absurd (omega arith)
xor_bits m (suc (suc n)) hm hn = absurd (omega arith)

pub has-dropped : (v w b : ℕ) →
    has_square (bit_xor v (bit_and v w)) b ≡ (has_square v b && not (has_square w b))
has-dropped v w b =
    ap (λ x. x == 1) (bit_at_xor v (bit_and v w) b
    ∙ ap (λ x. (bit_at v b + x) % 2) (bit_at_and v w b))
    ∙ xor_bits (bit_at v b) (bit_at w b) (bit_at-lt v b) (bit_at-lt w b)

ones : 18446744073709551615 ≡ set_of (λ b. true)
unfolding set_of
ones = refl

pub has-ones : (b : ℕ) → b < 64 → has_square 18446744073709551615 b ≡ true
has-ones b l = ap (λ w. has_square w b) ones ∙ has-set_of (λ b. true) b l

turned : (m n : ℕ) → m < 2 → n < 2 → (n == 1) ≡ true → ((m + n) % 2 == 1) ≡ not (m == 1)
turned zero zero hm hn e = absurd cc
turned (suc zero) zero hm hn e = absurd cc
turned zero (suc zero) hm hn e = refl
turned (suc zero) (suc zero) hm hn e = refl
turned (suc (suc m)) n hm hn e = absurd (omega arith)
turned m (suc (suc n)) hm hn e = absurd (omega arith)

pub has-turned : (v b : ℕ) → b < 64 →
    has_square (bit_xor v 18446744073709551615) b ≡ not (has_square v b)
has-turned v b l =
    ap (λ x. x == 1) (bit_at_xor v 18446744073709551615 b)
    ∙ turned (bit_at v b) (bit_at 18446744073709551615 b) (bit_at-lt v b)
    (bit_at-lt 18446744073709551615 b) (has-ones b l)

-- a plane whose rows are all alike
pub none_in : IsPlaneOf (replicate 64 0) (λ a b. false)
none_in a b la lb = ap (λ w. has_square w b) (get_or-replicate 64 a 0 0 la) ∙ has-zero b

pub all_in : IsPlaneOf (replicate 64 18446744073709551615) (λ a b. true)
all_in a b la lb =
    ap (λ w. has_square w b) (get_or-replicate 64 a 18446744073709551615 0 la) ∙ has-ones b lb

-- a bit set and cleared
pub bit_put : (w s k : ℕ) → s < 64 → k < 64 →
    has_square (bit_or w (1 * 2 ^ s % 2 ^ 64)) k ≡ ((k == s) || has_square w k)
bit_put w s k ls lk =
    elim (eqb_tells k s) [
      | inl e ↦
          ap (λ i. has_square (bit_or w (1 * 2 ^ s % 2 ^ 64)) i) e.1
          ∙ ap (λ b. b == 1) (bit_at_set_same w64 w s ls)
          ∙ sym (ap (λ x. x || has_square w k) e.0)
      | inr e ↦
          ap (λ b. b == 1) (bit_at_set_other w64 w s ls k e.1)
          ∙ sym (ap (λ x. x || has_square w k) e.0)
    ]

bit_taken : (w s k : ℕ) → s < 64 → k < 64 →
    has_square (bit_and w (bit_not w64 (1 * 2 ^ s % 2 ^ 64))) k ≡ (not (k == s) && has_square w k)
bit_taken w s k ls lk =
    elim (eqb_tells k s) [
      | inl e ↦
          ap (λ i. has_square (bit_and w (bit_not w64 (1 * 2 ^ s % 2 ^ 64))) i) e.1
          ∙ ap (λ b. b == 1) (bit_at_clear_same w64 w s ls)
          ∙ sym (ap (λ x. not x && has_square w k) e.0)
      | inr e ↦
          ap (λ b. b == 1) (bit_at_clear_other w64 w s ls k lk e.1)
          ∙ sym (ap (λ x. not x && has_square w k) e.0)
    ]

-- one row written
pub set_row : (p : List ℕ) (a w x y : ℕ) → a < length p →
    has_pair (set p a w) x y ≡ cond (x == a) (has_square w y) (has_pair p x y)
set_row p a w x y la =
    elim (eqb_tells x a) [
      | inl e ↦
          ap (λ i. has_pair (set p a w) i y) e.1
          ∙ ap (λ v. has_square v y) (get_or-set_same p a w 0 la)
          ∙ sym (ap (λ t. cond t (has_square w y) (has_pair p x y)) e.0)
      | inr e ↦
          ap (λ v. has_square v y) (get_or-set_other p a x w 0 e.1)
          ∙ sym (ap (λ t. cond t (has_square w y) (has_pair p x y)) e.0)
    ]

put_if : (t u v : Bool) → cond t (u || v) v ≡ ((t && u) || v)
put_if true u v = refl
put_if false u v = refl

taken_if : (t u v : Bool) → cond t (not u && v) v ≡ (not (t && u) && v)
taken_if true u v = refl
taken_if false u v = refl

at_row : (p : List ℕ) (q : ℕ → ℕ → Bool) (a x y : ℕ) → cond (x == a) (q a y) (has_pair p x y)
    ≡ cond (x == a) (q x y) (has_pair p x y)
at_row p q a x y =
    elim (eqb_tells x a) [
      | inl e ↦ ap (λ i. cond (x == a) (q i y) (has_pair p x y)) (sym e.1)
      | inr e ↦
          ap (λ t. cond t (q a y) (has_pair p x y)) e.0
          ∙ sym (ap (λ t. cond t (q x y) (has_pair p x y)) e.0)
    ]

pub put_pair : (p : List ℕ) (a b x y : ℕ) → a < length p → b < 64 → y < 64 →
    has_pair (set p a (bit_or (get_or p a 0) (1 * 2 ^ b % 2 ^ 64))) x y
    ≡ (((x == a) && (y == b)) || has_pair p x y)
put_pair p a b x y la lb ly =
    set_row p a (bit_or (get_or p a 0) (1 * 2 ^ b % 2 ^ 64)) x y la
    ∙ ap (λ t. cond (x == a) t (has_pair p x y)) (bit_put (get_or p a 0) b y lb ly)
    ∙ at_row p (λ i j. (j == b) || has_pair p i j) a x y
    ∙ put_if (x == a) (y == b) (has_pair p x y)

pub take_pair : (p : List ℕ) (a b x y : ℕ) → a < length p → b < 64 → y < 64 →
    has_pair (set p a (bit_and (get_or p a 0) (bit_not w64 (1 * 2 ^ b % 2 ^ 64)))) x y
    ≡ (not ((x == a) && (y == b)) && has_pair p x y)
take_pair p a b x y la lb ly =
    set_row p a (bit_and (get_or p a 0) (bit_not w64 (1 * 2 ^ b % 2 ^ 64))) x y la
    ∙ ap (λ t. cond (x == a) t (has_pair p x y)) (bit_taken (get_or p a 0) b y lb ly)
    ∙ at_row p (λ i j. not (j == b) && has_pair p i j) a x y
    ∙ taken_if (x == a) (y == b) (has_pair p x y)
