-- Numbers that exchange a bit.
use Rattle.std.specs.Prelude.{ℕ, ◌+◌, ◌-◌, ◌*◌, ◌^◌}
use Rattle.std.specs.Int.{bit_at}

-- the number a with bit i as b has it
abbrev pub with_bit_of : (i a b : ℕ) → ℕ
with_bit_of i a b = a - bit_at a i * 2 ^ i + bit_at b i * 2 ^ i
