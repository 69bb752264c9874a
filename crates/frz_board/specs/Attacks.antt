-- Attack, as tests on a board; the module Attacking says the same as a relation.
use Rattle.std.specs.Prelude.{not, ℕ, Bool, false, ◌==◌, ◌&&◌, ◌||◌, Option, None, Some}
use Rattle.std.specs.List.{list_all, list_any}
use Rattle.frz_board.specs.declared.man.Colour.{Colour}
use Rattle.frz_board.specs.declared.man.Kind.{Kind}
use Rattle.frz_board.specs.declared.man.Kind.TheVariants.{King, Queen, Rook, Bishop, Knight, Pawn}
use Rattle.frz_board.specs.declared.man.Man.{Man}
use Rattle.frz_board.specs.Squares.{squares, files_apart, is_forward}
use Rattle.frz_board.specs.Lines.{is_knight_jump, is_king_step, is_rook_line, is_bishop_line, is_between}
use Rattle.frz_board.specs.Men.{other_of}
use Rattle.frz_board.specs.Boards.{Board, man_on, is_empty, holds, has}

-- each square strictly between a and b is empty (FIDE 3.5)
abbrev pub is_clear : Board → ℕ → ℕ → Bool
is_clear p a b = list_all (λ s. not (is_between a s b) || is_empty p s) squares

-- b is one square diagonally forward of a, as the side sees it (FIDE 3.7)
abbrev pub pawn_reaches : Colour → ℕ → ℕ → Bool
pawn_reaches c a b = files_apart a b == 1 && is_forward c 1 a b

-- a man of this colour and kind on a would attack b (FIDE 3.2 to 3.8)
abbrev pub reaches : Board → Colour → Kind → ℕ → ℕ → Bool
reaches p c King a b = is_king_step a b
reaches p c Queen a b = (is_rook_line a b || is_bishop_line a b) && is_clear p a b
reaches p c Rook a b = is_rook_line a b && is_clear p a b
reaches p c Bishop a b = is_bishop_line a b && is_clear p a b
reaches p c Knight a b = is_knight_jump a b
reaches p c Pawn a b = pawn_reaches c a b

abbrev pub man_reaches : Board → Option Man → ℕ → ℕ → Bool
man_reaches p None a b = false
man_reaches p (Some m) a b = reaches p m.colour m.kind a b

-- the man on a attacks b, whatever becomes of its own king (FIDE 3.1)
abbrev pub attacks : Board → ℕ → ℕ → Bool
attacks p a b = man_reaches p (man_on p a) a b

-- some man of this side attacks the square (FIDE 3.1)
abbrev pub is_attacked : Board → ℕ → Colour → Bool
is_attacked p s by = list_any (λ a. holds p by a && attacks p a s) squares

-- the side's king is attacked (FIDE 3.9)
abbrev pub is_in_check : Board → Colour → Bool
is_in_check p c = list_any (λ s. has p c King s && is_attacked p s (other_of c)) squares
