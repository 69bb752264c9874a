-- A position, and what stands on its squares.
use Rattle.std.specs.Prelude.{◌≡◌, ℕ, ◌<◌, Bool, ◌==◌, List, length, Option, slice_index}
use Rattle.std.specs.List.{All}
use Rattle.frz_board.specs.declared.man.Colour.{Colour}
use Rattle.frz_board.specs.declared.man.Kind.{Kind}
use Rattle.frz_board.specs.declared.man.Man.{Man}
use Rattle.frz_board.specs.Men.{cell_of_man, man_of_cell, is_man_of}

-- a position: 64 cells, the side to move, and the square that a pawn has just passed over
pub record Board : Type 0 where
  pub cells : List ℕ
  pub turn : Colour
  pub ep : Option ℕ

-- 64 cells, each with a man's number, 1 to 12, or 0
pub record CellsFit (cells : List ℕ) : Type 0 where
  pub size : length cells ≡ 64
  pub men : All (λ c. c < 13) cells

-- the man on a square, if any
abbrev pub man_on : Board → ℕ → Option Man
man_on p s = man_of_cell (slice_index p.cells s)

abbrev pub is_empty : Board → ℕ → Bool
is_empty p s = slice_index p.cells s == 0

-- a man of this side stands on the square
abbrev pub holds : Board → Colour → ℕ → Bool
holds p c s = is_man_of c (man_on p s)

-- a man of this colour and kind stands on the square
abbrev pub has : Board → Colour → Kind → ℕ → Bool
has p c k s = slice_index p.cells s == cell_of_man (record { colour = c; kind = k })
