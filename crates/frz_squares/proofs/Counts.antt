-- The bits set in a word are as many as the squares that pass its test.
use Rattle.std.proofs.Common.{◌≡◌, ℕ, zero, suc, ◌+◌, ◌*◌, ◌^◌, Bool, true, false, cond, [], inl, inr, count_ones, ap, ◌∙◌, ◌<◌, arith, refl}
use Rattle.std.specs.Prelude.{count_by, sum_by}
use Rattle.std.specs.List.{range_with_len}
use Rattle.std.proofs.lemmas.List.Sums.{sum_by-cons}
use Rattle.std.proofs.lemmas.Nat.{ones_cat, ones_le_self, zero_from_ones}
use Rattle.std.proofs.lemmas.Bool.{cases_eq}
use Rattle.frz_squares.specs.Squares.{squares}
use Rattle.frz_squares.specs.SquareSets.{has_square, bits_below, set_of}
use Rattle.frz_squares.proofs.Bits.{bits_below-small, set_of-from}

-- one number more at the end
pub sum_by-next : (f : ℕ → ℕ) (a n : ℕ) →
    sum_by f (range_with_len a (suc n)) ≡ sum_by f (range_with_len a n) + f (a + n)
sum_by-next f a zero =
    let e : a + zero ≡ a = omega arith in omega (arith, sum_by-cons f a [], ap f e)
sum_by-next f a (suc n) =
    let e : a + 1 + n ≡ a + suc n = omega arith in
    omega (
      arith,
      sum_by-cons f a (range_with_len (a + 1) (suc n)),
      sum_by-cons f a (range_with_len (a + 1) n),
      sum_by-next f (a + 1) n,
      ap f e,
    )

-- the highest bit stands before the bits below it
high_bit_first : (x : Bool) (r n : ℕ) → r + cond x (2 ^ n) 0 ≡ cond x 1 0 * 2 ^ n + r
high_bit_first true r n = omega arith
high_bit_first false r n = omega arith

one_bit : (x : Bool) → count_ones (cond x 1 0) ≡ cond x 1 0
one_bit true =
    elim (cases_eq (count_ones 1) 0) [
      | inl e ↦ absurd (let none = zero_from_ones 1 e in omega arith)
      | inr e ↦ omega (arith, e, ones_le_self 1)
    ]
one_bit false = omega (arith, ones_le_self 0)

ones_below : (f : ℕ → Bool) (n : ℕ) → count_ones (bits_below f n) ≡ count_by f (range_with_len 0 n)
ones_below f zero = one_bit false
ones_below f (suc n) =
    let e : 0 + n ≡ n = omega arith in
    omega (
      arith,
      ap count_ones (high_bit_first (f n) (bits_below f n) n),
      ones_cat n (cond (f n) 1 0) (bits_below f n) (bits_below-small f n),
      one_bit (f n),
      ones_below f n,
      sum_by-next (λ y. cond (f y) 1 0) 0 n,
      ap {B = ℕ} (λ k. cond (f k) 1 0) e,
    )

pub ones_of : (f : ℕ → Bool) → count_ones (set_of f) ≡ count_by f squares
unfolding set_of squares
ones_of f = ones_below f 64

-- the squares of a word of 64 bits
pub ones_in : (w : ℕ) → w < 2 ^ 64 → count_ones w ≡ count_by (has_square w) squares
ones_in w small =
    ap count_ones (set_of-from w (has_square w) small (λ k l. refl)) ∙ ones_of (has_square w)
