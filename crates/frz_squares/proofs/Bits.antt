-- Sets of squares as tests of their squares.
use Rattle.std.proofs.Common.{w64, ◌≡◌, ℕ, zero, suc, ◌+◌, ◌-◌, ◌*◌, ◌^◌, ◌<◌, ◌≤◌, Bool, true, false, cond, ◌&&◌, ◌||◌, not, min, max, refl, ap, sym, ◌∙◌, arith, bit_and, bit_or, inl, inr, add-one, pow-suc}
use Rattle.std.specs.Prelude.{◌==◌}
use Rattle.std.specs.List.{list_all, list_any}
use Rattle.std.specs.Int.{bit_at, bit_not}
use Rattle.std.proofs.lemmas.Bool.{eqb-true, eq-eqb, cases_eq, not-true, false_from_ne_true}
use Rattle.std.proofs.lemmas.Bool.Decides.{nat_tests}
use Rattle.std.proofs.lemmas.Nat.Bits.{bit_at-lt, bit_at-zero, bit_at_and, bit_at_or, bit_at_not, bit_at_cat_low, bit_at_cat_high, same_from_bits_below}
use Rattle.std.proofs.Math.Pow.{pow_pos}
use Rattle.frz_squares.specs.Squares.{squares}
use Rattle.std.specs.Cmp.{both_ways}
use Rattle.std.proofs.Math.Bool.{not-not}
use Rattle.frz_squares.proofs.AllSquares.{each_square, all_squares, any_square, no_square}
use Rattle.frz_squares.specs.SquareSets.{has_square, bits_below, set_of}
use Rattle.std.proofs.lemmas.Nat.{and_le_r, or_lt}

and_small : (v w : ℕ) → w < 2 ^ 64 → bit_and v w < 2 ^ 64
and_small v w h = omega (arith, and_le_r v w)

with_bit : (x : Bool) (r n : ℕ) → r < 2 ^ n → r + cond x (2 ^ n) 0 < 2 ^ suc n
with_bit true r n h = omega (arith, pow-suc 2 n)
with_bit false r n h = omega (arith, pow-suc 2 n)

pub bits_below-small : (f : ℕ → Bool) (n : ℕ) → bits_below f n < 2 ^ n
bits_below-small f zero = omega arith
bits_below-small f (suc n) = with_bit (f n) (bits_below f n) n (bits_below-small f n)

high_bit_first : (x : Bool) (r n : ℕ) → r + cond x (2 ^ n) 0 ≡ cond x 1 0 * 2 ^ n + r
high_bit_first true r n = omega arith
high_bit_first false r n = omega arith

top : (x : Bool) (r n : ℕ) → r < 2 ^ n → bit_at (cond x 1 0 * 2 ^ n + r) n ≡ cond x 1 0
top true r n h =
    let e : n - n ≡ 0 = omega arith in bit_at_cat_high 1 n r n h (omega arith) ∙ ap (bit_at 1) e
top false r n h =
    let e : n - n ≡ 0 = omega arith in bit_at_cat_high 0 n r n h (omega arith) ∙ ap (bit_at 0) e

-- the bits of a set are those of its test
bit_below : (f : ℕ → Bool) (n k : ℕ) → k < n → bit_at (bits_below f n) k ≡ cond (f k) 1 0
bit_below f zero k h = absurd (omega arith)
bit_below f (suc n) k h =
    elim (cases_eq k n) [
      | inl e ↦
          ap (λ w. bit_at w k) (high_bit_first (f n) (bits_below f n) n)
          ∙ ap (bit_at (cond (f n) 1 0 * 2 ^ n + bits_below f n)) e
          ∙ top (f n) (bits_below f n) n (bits_below-small f n) ∙ ap (λ j. cond (f j) 1 0) (sym e)
      | inr e ↦
          ap (λ w. bit_at w k) (high_bit_first (f n) (bits_below f n) n)
          ∙ bit_at_cat_low (cond (f n) 1 0) n (bits_below f n) k (omega arith)
          ∙ bit_below f n k (omega arith)
    ]

pub one_or_none : (x : Bool) → (cond x 1 0 == 1) ≡ x
one_or_none true = refl
one_or_none false = refl

pub has-bits_below : (f : ℕ → Bool) (n k : ℕ) → k < n → has_square (bits_below f n) k ≡ f k
has-bits_below f n k h = ap (λ b. b == 1) (bit_below f n k h) ∙ one_or_none (f k)

-- a square is in the set of a test exactly where it passes the test
pub has-set_of : (f : ℕ → Bool) (k : ℕ) → k < 64 → has_square (set_of f) k ≡ f k
unfolding set_of
has-set_of f k h = has-bits_below f 64 k h

pub set_of-small : (f : ℕ → Bool) → set_of f < 2 ^ 64
unfolding set_of
set_of-small f = bits_below-small f 64

same_below : (f g : ℕ → Bool) (n : ℕ) → ((k : ℕ) → k < n → f k ≡ g k) →
    bits_below f n ≡ bits_below g n
same_below f g zero h = refl
same_below f g (suc n) h =
    ap (λ w. w + cond (f n) (2 ^ n) 0) (same_below f g n (λ k l. h k (omega arith)))
    ∙ ap (λ x. bits_below g n + cond x (2 ^ n) 0) (h n (omega arith))

-- two tests that agree on the squares have one set
pub set_of-same : (f g : ℕ → Bool) → ((k : ℕ) → k < 64 → f k ≡ g k) → set_of f ≡ set_of g
unfolding set_of
set_of-same f g h = same_below f g 64 h

bit_back : (b : ℕ) → b < 2 → b ≡ cond (b == 1) 1 0
bit_back b h = grind (arith, nat_tests)

-- a number of 64 bits is the set of the squares that pass a test, where its squares are those
pub set_of-from : (w : ℕ) (f : ℕ → Bool) → w < 2 ^ 64 → ((k : ℕ) → k < 64 → has_square w k ≡ f k) →
    w ≡ set_of f
unfolding set_of
set_of-from w f small h =
    same_from_bits_below 64 w (bits_below f 64) small (bits_below-small f 64)
    (λ k l. bit_back (bit_at w k) (bit_at-lt w k) ∙ ap (λ x. cond x 1 0) (h k l)
    ∙ sym (bit_below f 64 k l))

and_bits : (m n : ℕ) → m < 2 → n < 2 → (min m n == 1) ≡ ((m == 1) && (n == 1))
and_bits m n hm hn = grind (arith, nat_tests)

or_bits : (m n : ℕ) → m < 2 → n < 2 → (max m n == 1) ≡ ((m == 1) || (n == 1))
or_bits m n hm hn = grind (arith, nat_tests)

-- the squares of both sets, and of either
pub has-and : (v w k : ℕ) → has_square (bit_and v w) k ≡ (has_square v k && has_square w k)
has-and v w k =
    ap (λ b. b == 1) (bit_at_and v w k)
    ∙ and_bits (bit_at v k) (bit_at w k) (bit_at-lt v k) (bit_at-lt w k)

pub has-or : (v w k : ℕ) → has_square (bit_or v w) k ≡ (has_square v k || has_square w k)
has-or v w k =
    ap (λ b. b == 1) (bit_at_or v w k)
    ∙ or_bits (bit_at v k) (bit_at w k) (bit_at-lt v k) (bit_at-lt w k)

not_bit : (n : ℕ) → n < 2 → (1 - n == 1) ≡ not (n == 1)
not_bit n h = grind (arith, nat_tests)

pub has-not : (w k : ℕ) → w < 2 ^ 64 → k < 64 → has_square (bit_not w64 w) k ≡ not (has_square w k)
has-not w k small l =
    ap (λ b. b == 1) (bit_at_not w64 w k small l) ∙ not_bit (bit_at w k) (bit_at-lt w k)

-- the squares of the one set that are not in the other
pub has-without : (v w k : ℕ) → w < 2 ^ 64 → k < 64 →
    has_square (bit_and v (bit_not w64 w)) k ≡ (has_square v k && not (has_square w k))
has-without v w k small l =
    has-and v (bit_not w64 w) k ∙ ap (λ x. has_square v k && x) (has-not w k small l)

-- the squares that pass either test
pub union : (f g : ℕ → Bool) → bit_or (set_of f) (set_of g) ≡ set_of (λ k. f k || g k)
union f g =
    set_of-from (bit_or (set_of f) (set_of g)) (λ k. f k || g k)
    (or_lt 64 (set_of f) (set_of g) (set_of-small f) (set_of-small g))
    (λ k l. has-or (set_of f) (set_of g) k
    ∙ ap (λ x. x || has_square (set_of g) k) (has-set_of f k l)
    ∙ ap (λ x. f k || x) (has-set_of g k l))

pub has-zero : (k : ℕ) → has_square 0 k ≡ false
has-zero k = ap (λ b. b == 1) (bit_at-zero k)

none_from : (b : ℕ) → b < 2 → (b == 1) ≡ false → b ≡ 0
none_from b h e = grind (arith, nat_tests)

-- a set without squares is 0
pub empty_set : (w : ℕ) → w < 2 ^ 64 → ((k : ℕ) → k < 64 → has_square w k ≡ false) → w ≡ 0
empty_set w small h =
    same_from_bits_below 64 w 0 small (pow_pos 64)
    (λ k l. none_from (bit_at w k) (bit_at-lt w k) (h k l) ∙ sym (bit_at-zero k))

not_both : (x y : Bool) → (x && y) ≡ false → (not x || not y) ≡ true
not_both true true h = cc
not_both true false h = refl
not_both false y h = refl

either_not : (x y : Bool) → (not x || not y) ≡ true → (x && y) ≡ false
either_not true true h = cc
either_not true false h = refl
either_not false y h = refl

-- two sets have no square in common
pub apart_sets : (f : ℕ → Bool) (w : ℕ) → w < 2 ^ 64 →
    (bit_and (set_of f) w == 0) ≡ list_all (λ s. not (f s) || not (has_square w s)) squares
apart_sets f w small =
    both_ways (bit_and (set_of f) w == 0)
    (list_all (λ s. not (f s) || not (has_square w s)) squares)
    (λ h. all_squares (λ s. not (f s) || not (has_square w s))
    (λ k l. not_both (f k) (has_square w k)
    (ap (λ x. x && has_square w k) (sym (has-set_of f k l)) ∙ sym (has-and (set_of f) w k)
    ∙ ap (λ v. has_square v k) (eqb-true (bit_and (set_of f) w) 0 h) ∙ has-zero k)))
    (λ h. eq-eqb (bit_and (set_of f) w) 0
    (empty_set (bit_and (set_of f) w) (and_small (set_of f) w small)
    (λ k l. has-and (set_of f) w k ∙ ap (λ x. x && has_square w k) (has-set_of f k l)
    ∙ either_not (f k) (has_square w k)
    (each_square (λ s. not (f s) || not (has_square w s)) h k l))))

none_at : (f : ℕ → Bool) → list_any f squares ≡ false → (k : ℕ) → k < 64 → f k ≡ false
none_at f h k l = false_from_ne_true (f k) (λ e. let there = any_square f k l e in cc)

-- a set is 0 exactly where no square passes its test
pub set_of-none : (f : ℕ → Bool) → (set_of f == 0) ≡ not (list_any f squares)
set_of-none f =
    both_ways (set_of f == 0) (not (list_any f squares))
    (λ h. ap not (no_square f
    (λ k l. sym (has-set_of f k l) ∙ ap (λ w. has_square w k) (eqb-true (set_of f) 0 h)
    ∙ has-zero k)))
    (λ h. eq-eqb (set_of f) 0
    (empty_set (set_of f) (set_of-small f)
    (λ k l. has-set_of f k l ∙ none_at f (not-true (list_any f squares) h) k l)))

pub set_of-some : (f : ℕ → Bool) → not (set_of f == 0) ≡ list_any f squares
set_of-some f = ap not (set_of-none f) ∙ not-not (list_any f squares)

pub ruleset set_reading = (has-set_of)

-- one square more
pub bits_below-next : (f : ℕ → Bool) (n : ℕ) →
    bits_below f (n + 1) ≡ bits_below f n + cond (f n) (2 ^ n) 0
bits_below-next f n = ap (bits_below f) (add-one n)

-- the squares between that fail the test add nothing
pub bits_below-skip : (f : ℕ → Bool) (n j : ℕ) →
    ((k : ℕ) → n ≤ k → k < n + j → f k ≡ false) → bits_below f (n + j) ≡ bits_below f n
bits_below-skip f n zero h = let e : n + zero ≡ n = omega arith in ap (bits_below f) e
bits_below-skip f n (suc j) h =
    let e : n + suc j ≡ suc (n + j) = omega arith in
    let rest = bits_below-skip f n j (λ k l m. h k l (omega arith)) in
    let bit = ap (λ x. cond x (2 ^ (n + j)) 0) (h (n + j) (omega arith) (omega arith)) in
    ap (bits_below f) e ∙ omega (arith, rest, bit)

pub bits_below-jump : (f : ℕ → Bool) (n m : ℕ) → n ≤ m →
    ((k : ℕ) → n ≤ k → k < m → f k ≡ false) → bits_below f m ≡ bits_below f n
bits_below-jump f n m l h =
    let e : n + (m - n) ≡ m = omega arith in
    ap (bits_below f) (sym e) ∙ bits_below-skip f n (m - n) (λ k i j. h k i (omega arith))
