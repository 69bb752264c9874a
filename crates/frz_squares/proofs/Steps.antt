-- The eight squares a king's step from a square, by ranks.
use Rattle.std.proofs.Common.{◌≡◌, ℕ, ◌+◌, ◌-◌, ◌*◌, ◌/◌, ◌%◌, ◌^◌, ◌<◌, ◌≤◌, Bool, true, false, not, ◌&&◌, ◌||◌, refl, ap, sym, ◌∙◌, arith, inl, inr, shr-shr, zero, suc, bit_and, bit_or}
use Rattle.std.specs.Prelude.{◌==◌, nat_lt, nat_le}
use Rattle.std.specs.List.{list_all}
use Rattle.std.specs.Cmp.{both_ways}
use Rattle.std.proofs.lemmas.Bool.{and_parts, or_cases, eqb-true, cases_lt, true_from_ne_false}
use Rattle.std.proofs.Math.Pow.{pow_pos}
use Rattle.std.proofs.lemmas.Nat.{shr_split, shr_le, and_le_r, or_lt}
use Rattle.std.proofs.lemmas.Nat.Bits.{bit_at-zero, bit_at_cat_low, bit_at_cat_high, bit_at_above}
use Rattle.std.proofs.lemmas.Bool.Decides.{nat_tests}
use Rattle.frz_squares.specs.Squares.{squares, distance}
use Rattle.frz_squares.specs.SquareSets.{has_square, set_of}
use Rattle.frz_squares.specs.Steps.{any_step}
use Rattle.frz_squares.proofs.Connectives.{either_or, implied}
use Rattle.frz_squares.proofs.AllSquares.{Found, each_square, some_square, any_square}
use Rattle.frz_squares.proofs.Bits.{has-and, has-or, has-set_of, set_of-from}

abbrev pub beside : (ℕ → Bool) → ℕ → Bool
beside q k = (not (k % 8 == 0) && q (k - 1)) || (not (k % 8 == 7) && q (k + 1))

abbrev pub row : (ℕ → Bool) → ℕ → Bool
row q k = beside q k || q k

abbrev pub around : (ℕ → Bool) → ℕ → Bool
around q k = beside q k || ((nat_le 8 k && row q (k - 8)) || (nat_lt k 56 && row q (k + 8)))

or_mono : (a b x y : Bool) → (a ≡ true → x ≡ true) → (b ≡ true → y ≡ true) → (a || b) ≡ true →
    (x || y) ≡ true
or_mono a b x y f g h =
    elim (or_cases a b h) [ inl w ↦ either_or x y (inl (f w)) | inr w ↦ either_or x y (inr (g w)) ]

and_mono : (a b y : Bool) → (b ≡ true → y ≡ true) → (a && b) ≡ true → (a && y) ≡ true
and_mono true b y g h = g h
and_mono false b y g h = h

beside_mono : (f q : ℕ → Bool) → ((x : ℕ) → f x ≡ true → q x ≡ true) → (k : ℕ) →
    beside f k ≡ true → beside q k ≡ true
beside_mono f q m k =
    or_mono (not (k % 8 == 0) && f (k - 1)) (not (k % 8 == 7) && f (k + 1))
    (not (k % 8 == 0) && q (k - 1)) (not (k % 8 == 7) && q (k + 1))
    (and_mono (not (k % 8 == 0)) (f (k - 1)) (q (k - 1)) (m (k - 1)))
    (and_mono (not (k % 8 == 7)) (f (k + 1)) (q (k + 1)) (m (k + 1)))

row_mono : (f q : ℕ → Bool) → ((x : ℕ) → f x ≡ true → q x ≡ true) → (k : ℕ) →
    row f k ≡ true → row q k ≡ true
row_mono f q m k =
    or_mono (beside f k) (f k) (beside q k) (q k) (beside_mono f q m k) (m k)

around_mono : (f q : ℕ → Bool) → ((x : ℕ) → f x ≡ true → q x ≡ true) → (k : ℕ) →
    around f k ≡ true → around q k ≡ true
around_mono f q m k =
    or_mono (beside f k) ((nat_le 8 k && row f (k - 8)) || (nat_lt k 56 && row f (k + 8)))
    (beside q k) ((nat_le 8 k && row q (k - 8)) || (nat_lt k 56 && row q (k + 8)))
    (beside_mono f q m k)
    (or_mono (nat_le 8 k && row f (k - 8)) (nat_lt k 56 && row f (k + 8))
    (nat_le 8 k && row q (k - 8)) (nat_lt k 56 && row q (k + 8))
    (and_mono (nat_le 8 k) (row f (k - 8)) (row q (k - 8)) (row_mono f q m (k - 8)))
    (and_mono (nat_lt k 56) (row f (k + 8)) (row q (k + 8)) (row_mono f q m (k + 8))))

-- a square at a distance of 1 stands around, by computing
near : (s : ℕ) → s < 64 → (c : ℕ) → c < 64 → distance s c == 1 ≡ true →
    around (λ x. x == c) s ≡ true
unfolding squares
near s l c m h =
    let test = λ (a b : ℕ). not (distance a b == 1) || around (λ x. x == b) a in
    let each = each_square (λ a. list_all (test a) squares) refl s l in
    implied (distance s c == 1) (around (λ x. x == c) s) (each_square (test s) each c m) h

-- and none else
far : ℕ → ℕ → Bool
far s x = not ((distance s x == 1) && nat_lt x 64)

none_far : (s : ℕ) → s < 64 → not (around (far s) s) ≡ true
unfolding squares far
none_far s l = each_square (λ a. not (around (far a) a)) refl s l

clash : (x : Bool) → x ≡ true → not x ≡ true → ⊥
clash true e h = cc
clash false e h = cc

both : {a b : Bool} → a ≡ true → b ≡ true → (a && b) ≡ true
both e f = rw (e, f)

step_if : (a b : Bool) → (a ≡ true → ⊥) → not (a && b) ≡ true
step_if true b h = absurd (h refl)
step_if false b h = refl

past : (a b : Bool) → b ≡ false → not (a && b) ≡ true
past true b e = rw e
past false b e = refl

nat_lt_false : (x : ℕ) → 64 ≤ x → nat_lt x 64 ≡ false
nat_lt_false x m = grind (arith, nat_tests)

far_if : (q : ℕ → Bool) (s x : ℕ) → q x ≡ true → any_step s q ≡ false → far s x ≡ true
unfolding far
far_if q s x t e =
    elim (cases_lt x 64) [
      | inl m ↦ step_if (distance s x == 1) (nat_lt x 64)
          (λ d. let there = any_square (λ c. (distance s c == 1) && q c) x m (both d t) in cc)
      | inr m ↦ past (distance s x == 1) (nat_lt x 64) (nat_lt_false x m)
    ]

from_found : (q : ℕ → Bool) (s : ℕ) → s < 64 → Found (λ c. (distance s c == 1) && q c) →
    around q s ≡ true
from_found q s l w =
    let parts = and_parts (distance s w.square == 1) (q w.square) w.passes in
    around_mono (λ x. x == w.square) q
    (λ x e. ap q (eqb-true x w.square e) ∙ parts.1) s
    (near s l w.square w.on_board parts.0)

-- what stands around a square is what is a king's step from it
pub around_is : (q : ℕ → Bool) (s : ℕ) → s < 64 → around q s ≡ any_step s q
around_is q s l =
    both_ways (around q s) (any_step s q)
    (λ h. true_from_ne_false (any_step s q) (λ e.
    let none = around_mono q (far s) (λ x t. far_if q s x t e) s h in
    let not_there = none_far s l in
    clash (around (far s) s) none not_there))
    (λ h. from_found q s l (some_square (λ c. (distance s c == 1) && q c) h))

-- a word shifted down and up
has-down : (w n k : ℕ) → has_square (w / 2 ^ n) k ≡ has_square w (k + n)
has-down w n k =
    let e : n + k ≡ k + n = omega arith in ap (λ v. v % 2 == 1) (shr-shr w n k) ∙ ap (has_square w) e

-- a bit below 64 of what a number leaves modulo 2 ^ 64
has-mod : (w k : ℕ) → k < 64 → has_square (w % 2 ^ 64) k ≡ has_square w k
has-mod w k l =
    let e : w ≡ w / 2 ^ 64 * 2 ^ 64 + w % 2 ^ 64 = sym (shr_split w 64) in
    ap (λ b. b == 1) (sym (bit_at_cat_low (w / 2 ^ 64) 64 (w % 2 ^ 64) k l))
    ∙ ap (λ v. has_square v k) (sym e)

le_false : (n k : ℕ) → k < n → nat_le n k ≡ false
le_false n k m = grind (arith, nat_tests)

le_true : (n k : ℕ) → n ≤ k → nat_le n k ≡ true
le_true n k m = grind (arith, nat_tests)

has-up : (w n k : ℕ) → k < 64 → has_square (w * 2 ^ n % 2 ^ 64) k ≡ (nat_le n k && has_square w (k - n))
has-up w n k l =
    let e : w * 2 ^ n ≡ w * 2 ^ n + 0 = omega arith in
    has-mod (w * 2 ^ n) k l ∙ ap (λ v. has_square v k) e
    ∙ elim (cases_lt k n) [
      | inl m ↦ ap (λ b. b == 1) (bit_at_cat_low w n 0 k m ∙ bit_at-zero k)
          ∙ sym (ap (λ t. t && has_square w (k - n)) (le_false n k m))
      | inr m ↦ ap (λ b. b == 1) (bit_at_cat_high w n 0 k (pow_pos n) m)
          ∙ sym (ap (λ t. t && has_square w (k - n)) (le_true n k m))
    ]

not_file_a : 0xfefe_fefe_fefe_fefe ≡ set_of (λ k. not (k % 8 == 0))
unfolding set_of
not_file_a = refl

not_file_h : 0x7f7f_7f7f_7f7f_7f7f ≡ set_of (λ k. not (k % 8 == 7))
unfolding set_of
not_file_h = refl

has-low : (w k n : ℕ) → w < 2 ^ 64 → 64 ≤ k → has_square w k ≡ false
has-low w k n small l = ap (λ b. b == 1) (bit_at_above w 64 k small l)

and_swap : (x y : Bool) → (x && y) ≡ (y && x)
and_swap true true = refl
and_swap true false = refl
and_swap false true = refl
and_swap false false = refl

first : (k : ℕ) (x : Bool) → ((nat_le 1 k && x) && not (k % 8 == 0)) ≡ (not (k % 8 == 0) && x)
first zero x = refl
first (suc k) x =
    ap (λ t. (t && x) && not (suc k % 8 == 0)) (le_true 1 (suc k) (omega arith))
    ∙ and_swap x (not (suc k % 8 == 0))

or_group : (x y z : Bool) → ((x || y) || z) ≡ (x || (y || z))
or_group true y z = refl
or_group false y z = refl

same_or : (a b x y : Bool) → a ≡ x → b ≡ y → (a || b) ≡ (x || y)
same_or a b x y e f = ap (λ t. t || b) e ∙ ap (λ t. x || t) f

unfoldable pub besides : ℕ → ℕ
besides w =
    bit_or (bit_and (w * 2 % 18446744073709551616) 18374403900871474942)
    (bit_and (w / 2) 9187201950435737471)

besides-small : (w : ℕ) → besides w < 2 ^ 64
unfolding besides
besides-small w =
    or_lt 64 (bit_and (w * 2 % 18446744073709551616) 18374403900871474942)
    (bit_and (w / 2) 9187201950435737471)
    (omega (arith, and_le_r (w * 2 % 18446744073709551616) 18374403900871474942))
    (omega (arith, and_le_r (w / 2) 9187201950435737471))

has-mask : (m : ℕ) (f : ℕ → Bool) (k : ℕ) → m ≡ set_of f → k < 64 → has_square m k ≡ f k
has-mask m f k e l = ap (λ v. has_square v k) e ∙ has-set_of f k l

has-besides : (w k : ℕ) → k < 64 → has_square (besides w) k ≡ beside (has_square w) k
unfolding besides
has-besides w k l =
    let up = w * 2 % 18446744073709551616 in
    let fa = λ (j : ℕ). not (j % 8 == 0) in
    let fh = λ (j : ℕ). not (j % 8 == 7) in
    has-or (bit_and up 18374403900871474942) (bit_and (w / 2) 9187201950435737471) k
    ∙ same_or (has_square (bit_and up 18374403900871474942) k)
    (has_square (bit_and (w / 2) 9187201950435737471) k)
    (not (k % 8 == 0) && has_square w (k - 1)) (not (k % 8 == 7) && has_square w (k + 1))
    (has-and up 18374403900871474942 k
    ∙ ap (λ x. x && has_square 18374403900871474942 k) (has-up w 1 k l)
    ∙ ap (λ x. (nat_le 1 k && has_square w (k - 1)) && x)
    (has-mask 18374403900871474942 fa k not_file_a l)
    ∙ first k (has_square w (k - 1)))
    (has-and (w / 2) 9187201950435737471 k
    ∙ ap (λ x. x && has_square 9187201950435737471 k) (has-down w 1 k)
    ∙ ap (λ x. has_square w (k + 1) && x) (has-mask 9187201950435737471 fh k not_file_h l)
    ∙ and_swap (has_square w (k + 1)) (not (k % 8 == 7)))

has-row : (w k : ℕ) → k < 64 → has_square (bit_or (besides w) w) k ≡ row (has_square w) k
has-row w k l =
    has-or (besides w) w k ∙ ap (λ x. x || has_square w k) (has-besides w k l)

up_row : (w s : ℕ) → s < 64 →
    has_square (bit_or (besides w) w * 256 % 18446744073709551616) s
    ≡ (nat_le 8 s && row (has_square w) (s - 8))
up_row w s l =
    has-up (bit_or (besides w) w) 8 s l
    ∙ ap (λ x. nat_le 8 s && x) (has-row w (s - 8) (omega arith))

lt_false : (n k : ℕ) → k ≤ n → nat_lt n k ≡ false
lt_false n k m = grind (arith, nat_tests)

lt_true : (n k : ℕ) → n < k → nat_lt n k ≡ true
lt_true n k m = grind (arith, nat_tests)

down_row : (w s : ℕ) → w < 2 ^ 64 → s < 64 →
    has_square (bit_or (besides w) w / 256) s ≡ (nat_lt s 56 && row (has_square w) (s + 8))
down_row w s small l =
    has-down (bit_or (besides w) w) 8 s
    ∙ elim (cases_lt s 56) [
      | inl m ↦ has-row w (s + 8) (omega arith)
          ∙ sym (ap (λ t. t && row (has_square w) (s + 8)) (lt_true s 56 m))
      | inr m ↦
          has-low (bit_or (besides w) w) (s + 8) 0
          (or_lt 64 (besides w) w (besides-small w) small) (omega arith)
          ∙ sym (ap (λ t. t && row (has_square w) (s + 8)) (lt_false s 56 m))
    ]

-- the word that the shifts make
pub stepped_is : (w s : ℕ) → w < 2 ^ 64 → s < 64 →
    has_square (bit_or (bit_or (besides w) (bit_or (besides w) w * 256 % 18446744073709551616))
    (bit_or (besides w) w / 256)) s ≡ any_step s (has_square w)
stepped_is w s small l =
    let up = bit_or (besides w) w * 256 % 18446744073709551616 in
    let down = bit_or (besides w) w / 256 in
    has-or (bit_or (besides w) up) down s
    ∙ ap (λ x. x || has_square down s) (has-or (besides w) up s)
    ∙ or_group (has_square (besides w) s) (has_square up s) (has_square down s)
    ∙ same_or (has_square (besides w) s) (has_square up s || has_square down s)
    (beside (has_square w) s)
    ((nat_le 8 s && row (has_square w) (s - 8)) || (nat_lt s 56 && row (has_square w) (s + 8)))
    (has-besides w s l)
    (same_or (has_square up s) (has_square down s) (nat_le 8 s && row (has_square w) (s - 8))
    (nat_lt s 56 && row (has_square w) (s + 8)) (up_row w s l) (down_row w s small l))
    ∙ around_is (has_square w) s l

-- the word that the shifts make is the set of the squares a step from its squares
pub steps_are : (w : ℕ) → w < 2 ^ 64 →
    bit_or (bit_or (besides w) (bit_or (besides w) w * 256 % 18446744073709551616))
    (bit_or (besides w) w / 256) ≡ set_of (λ s. any_step s (has_square w))
steps_are w small =
    let row = bit_or (besides w) w in
    let up = row * 256 % 18446744073709551616 in
    let small_row : row < 2 ^ 64 = or_lt 64 (besides w) w (besides-small w) small in
    set_of-from (bit_or (bit_or (besides w) up) (row / 256)) (λ s. any_step s (has_square w))
    (or_lt 64 (bit_or (besides w) up) (row / 256)
    (or_lt 64 (besides w) up (besides-small w) (omega arith))
    (omega (arith, shr_le row 8)))
    (λ s l. stepped_is w s small l)
