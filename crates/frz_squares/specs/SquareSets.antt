-- Sets of squares in 64 bits: the bit of a square's number is set where the square is in the set.
use Rattle.std.specs.Prelude.{ℕ, zero, suc, ◌+◌, ◌^◌, ◌==◌, Bool, if◌then◌else◌}
use Rattle.std.specs.Int.{bit_at}

-- the square is in the set
abbrev pub has_square : ℕ → ℕ → Bool
has_square set s = bit_at set s == 1

-- the number whose bit k is set exactly where k is below n and passes the test
abbrev pub bits_below : (ℕ → Bool) → ℕ → ℕ
bits_below f zero = 0
bits_below f (suc n) = bits_below f n + (if f n then 2 ^ n else 0)

-- the set of exactly the squares that pass the test
unfoldable pub set_of : (ℕ → Bool) → ℕ
set_of f = bits_below f 64
