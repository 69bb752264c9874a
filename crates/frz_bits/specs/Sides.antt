-- A board with the words of its men.
use Rattle.std.specs.Prelude.{ℕ, ◌≡◌}
use Rattle.frz_board.specs.declared.man.Colour.TheVariants.{White, Black}
use Rattle.frz_board.specs.Boards.{Board, CellsFit, holds}
use Rattle.frz_squares.specs.SquareSets.{set_of}

-- each word is the set of the squares where a man of that side stands
pub record HasSides (p : Board) (white black : ℕ) : Type 0 where
  pub fits : CellsFit p.cells
  pub of_white : white ≡ set_of (holds p White)
  pub of_black : black ≡ set_of (holds p Black)
