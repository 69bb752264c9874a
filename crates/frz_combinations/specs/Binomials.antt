-- The binomial numbers.
use Rattle.std.specs.Prelude.{ℕ, zero, suc, ◌+◌, ◌-◌, ◌^◌, ◌≡◌, ◌<◌, min, List, length, slice_index, slice_index_or, []}

-- C(n, k), the ways to choose k of n, by Pascal's rule
unfoldable pub choose : ℕ → ℕ → ℕ
choose n zero = 1
choose zero (suc k) = 0
choose (suc n) (suc k) = choose n (suc k) + choose n k

-- what 64 bits hold of a number: the number itself, or the greatest that they hold
abbrev pub capped : ℕ → ℕ
capped n = min n (2 ^ 64 - 1)

-- the numbers C(n, 0) to C(n, 16) of row n of Pascal's triangle, each as far as 64 bits hold it
pub record IsRow (n : ℕ) (row : List ℕ) : Type 0 where
  pub width : length row ≡ 17
  pub numbers : (k : ℕ) → k < 17 → slice_index row k ≡ capped (choose n k)

-- the first rows of Pascal's triangle
unfoldable pub AreRows : List (List ℕ) → Type 0
AreRows rows = (n : ℕ) → n < length rows → IsRow n (slice_index_or rows n [])
