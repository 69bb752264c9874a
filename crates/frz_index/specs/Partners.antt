-- The same men with the other side to move.
use Rattle.std.specs.Prelude.{None}
use Rattle.frz_board.specs.declared.man.Colour.TheVariants.{Black}
use Rattle.frz_board.specs.Boards.{Board}

-- the same men with Black to move and no target
abbrev pub with_black : Board → Board
with_black p = record { cells = p.cells; turn = Black; ep = None }
