-- The two kinds of codes that settle a number.
use Rattle.std.specs.Prelude.{ℕ, Bool, true, false}
use Rattle.frz_arena.specs.Codes.{is_win, is_failure}

-- whether a code is a win (for true) or a failure (for false)
unfoldable pub is_of : Bool → ℕ → Bool
is_of true c = is_win c
is_of false c = is_failure c
