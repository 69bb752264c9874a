-- The codes that stand for bounds in a table: 0 at a broken number, 1 for a hold, even ones for
-- wins, odd ones for failures.
use Rattle.std.specs.Prelude.{◌≡◌, ◌≤◌, ◌+◌, ◌*◌, ◌%◌, ◌==◌, ◌&&◌, ℕ, Bool, true, nat_lt}
use Rattle.frz_arena.specs.declared.bound.Bound.{Bound}
use Rattle.frz_arena.specs.declared.bound.Bound.TheVariants.{Wins, Holds, Fails}
use Rattle.frz_arena.specs.declared.class.Class.{Class}
use Rattle.frz_arena.specs.declared.class.Class.TheVariants.{Good, Safe, Bad}

-- the code of a bound
abbrev pub code_of : Bound → ℕ
code_of (Wins n) = 2 + 2 * n
code_of Holds = 1
code_of (Fails m) = 3 + 2 * m

-- the plies of a win or a failure, and 0 for a hold
abbrev pub plies_of : Bound → ℕ
plies_of (Wins n) = n
plies_of Holds = 0
plies_of (Fails m) = m

-- the codes of wins: 2, 4, 6 ..
abbrev pub is_win : ℕ → Bool
is_win c = (c % 2 == 0) && nat_lt 0 c

-- the codes of failures: 3, 5, 7 ..
abbrev pub is_failure : ℕ → Bool
is_failure c = (c % 2 == 1) && nat_lt 1 c

-- the code of an exit for a side, by what its value is worth to the side and by its lag
abbrev pub exit_code : Class → ℕ → ℕ
exit_code Good lag = 2 + 2 * lag
exit_code Safe lag = 1
exit_code Bad lag = 3

-- the code of a win within n plies
abbrev pub IsWinWithin : ℕ → ℕ → Type 0
IsWinWithin n c = (is_win c ≡ true) × (c ≤ 2 + 2 * n)

-- the code of a failure within n plies
abbrev pub IsFailureWithin : ℕ → ℕ → Type 0
IsFailureWithin n c = (is_failure c ≡ true) × (c ≤ 3 + 2 * n)
