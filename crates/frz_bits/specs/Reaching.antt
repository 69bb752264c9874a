-- Which men may attack a square, judged only by where they stand.
use Rattle.std.specs.Prelude.{ℕ, Bool, ◌&&◌, ◌||◌}
use Rattle.frz_board.specs.declared.man.Colour.{Colour}
use Rattle.frz_board.specs.Lines.{is_knight_jump, is_rook_line, is_bishop_line}
use Rattle.frz_board.specs.Boards.{Board, holds}

-- a is on one line with the square s, or a knight's jump away
abbrev pub is_in_reach : ℕ → ℕ → Bool
is_in_reach s a = (is_rook_line s a || is_bishop_line s a) || is_knight_jump s a

-- a man of the side stands on a, in reach of s
abbrev pub may_attack : Board → ℕ → Colour → ℕ → Bool
may_attack p s by a = holds p by a && is_in_reach s a
