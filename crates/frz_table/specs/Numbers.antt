-- Bytes, and numbers of 32 bits in bytes, the lowest byte first.
use Rattle.std.specs.Prelude.{ℕ, zero, suc, ◌^◌, ◌<◌, List, [], ◌∷◌, ◌++◌, take, drop, slice_index}
use Rattle.std.specs.Int.{w32, to_le_bytes, from_le_bytes}
pub use Rattle.frz_store.specs.Bytes.{AreBytes}

-- each number of the list is below 2^32
abbrev pub AreNumbers : List ℕ → Type 0
AreNumbers ns = (i : ℕ) → slice_index ns i < 2 ^ 32

-- the number in the four bytes from a place on
abbrev pub number_at : ℕ → List ℕ → ℕ
number_at place bytes = from_le_bytes w32 (take 4 (drop place bytes))

-- the first `count` numbers in these bytes
unfoldable pub numbers : ℕ → List ℕ → List ℕ
numbers zero bytes = []
numbers (suc count) bytes = number_at 0 bytes ∷ numbers count (drop 4 bytes)

-- numbers as bytes, one after the other
unfoldable pub number_bytes : List ℕ → List ℕ
number_bytes [] = []
number_bytes (n ∷ ns) = to_le_bytes w32 n ++ number_bytes ns
