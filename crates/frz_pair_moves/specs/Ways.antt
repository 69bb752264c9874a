-- The squares that a man's move needs.
use Rattle.std.specs.Prelude.{ℕ, Bool, ◌==◌, ◌&&◌, ◌||◌, not}
use Rattle.frz_board.specs.Lines.{is_between}
use Rattle.frz_board.specs.Moving.{Step}

-- the man goes to the square, or passes it
abbrev pub is_on_way : Step → ℕ → Bool
is_on_way m s = s == m.to || is_between m.from s m.to

-- neither of two squares is on the man's way
abbrev pub leave_way : Step → (a b : ℕ) → Bool
leave_way m a b = not (is_on_way m a) && not (is_on_way m b)
