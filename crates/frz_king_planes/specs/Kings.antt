-- A board with the kings put on two squares.
use Rattle.std.specs.Prelude.{ℕ, ◌==◌, ◌&&◌, not, Bool, slice_set}
use Rattle.frz_board.specs.declared.man.Colour.{Colour}
use Rattle.frz_board.specs.declared.man.Colour.TheVariants.{White, Black}
use Rattle.frz_board.specs.declared.man.Kind.TheVariants.{King}
use Rattle.frz_board.specs.Boards.{Board, is_empty}
use Rattle.frz_board.specs.Men.{cell_of_man}

-- the number of the colour's king in a cell
abbrev pub king_cell : Colour → ℕ
king_cell c = cell_of_man (record { colour = c; kind = King })

-- the board with White's king on a and Black's on b
abbrev pub with_kings : Board → (a b : ℕ) → Board
with_kings p a b = record p {
  cells = slice_set (slice_set p.cells a (king_cell White)) b (king_cell Black);
}

-- two different squares, both empty
abbrev pub are_free : Board → (a b : ℕ) → Bool
are_free p a b = not (a == b) && (is_empty p a && is_empty p b)

-- of two squares, that of the colour's king
abbrev pub king_square : Colour → (white black : ℕ) → ℕ
king_square White white black = white
king_square Black white black = black
