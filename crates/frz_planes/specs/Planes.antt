-- A plane is a set of pairs of squares, a white king's place and a black king's. It is 64 words, its
-- rows: the row of the white king's square has the bit of the black king's square.
use Rattle.std.specs.Prelude.{◌≡◌, ℕ, ◌+◌, ◌*◌, ◌<◌, ◌≤◌, Bool, true, false, List, slice_index, count_by, sum_by}
use Rattle.frz_squares.specs.Squares.{squares}
use Rattle.frz_squares.specs.SquareSets.{has_square}

-- the pair is in the plane
abbrev pub has_pair : List ℕ → ℕ → ℕ → Bool
has_pair p a b = has_square (slice_index p a) b

-- the plane has exactly the pairs that pass the test
abbrev pub IsPlaneOf : List ℕ → (ℕ → ℕ → Bool) → Type 0
IsPlaneOf p test = (a b : ℕ) → a < 64 → b < 64 → has_pair p a b ≡ test a b

-- how many pairs the plane has
abbrev pub count_of : List ℕ → ℕ
count_of p = sum_by (λ a. count_by (λ b. has_pair p a b) squares) squares

-- the number of a pair: pairs are in order by the white king's square, then the black king's
abbrev pub pair_number : ℕ → ℕ → ℕ
pair_number a b = 64 * a + b

-- no pair of the plane has this number or one above it
pub record HasNoneFrom (p : List ℕ) (n : ℕ) : Type 0 where
  pub none : (a b : ℕ) → a < 64 → b < 64 → n ≤ pair_number a b → has_pair p a b ≡ false

-- the first pair of the plane with this number or one above it
pub record IsNext (p : List ℕ) (n a b : ℕ) : Type 0 where
  pub from : n ≤ pair_number a b
  pub white : a < 64
  pub black : b < 64
  pub there : has_pair p a b ≡ true
  pub first : (x y : ℕ) → x < 64 → y < 64 → n ≤ pair_number x y →
      pair_number x y < pair_number a b → has_pair p x y ≡ false
