-- Moves whose man arrives where the set has no such man.
use Rattle.std.specs.Prelude.{Bool, false, not, Option, None, Some, List}
use Rattle.frz_board.specs.declared.man.Man.{Man}
use Rattle.frz_board.specs.Boards.{Board, man_on}
use Rattle.frz_board.specs.Men.{cell_of_man}
use Rattle.frz_board.specs.Moving.{Step}
use Rattle.frz_fide.specs.Legal.{arrives}
use Rattle.frz_sets.specs.Views.{GroupLine}
use Rattle.frz_index.specs.Kept.{is_known}

-- the set does not have the arriving man, promoted or not, on the square where he arrives
abbrev pub is_out_of_place : List GroupLine → Option Man → Step → Bool
is_out_of_place gs None m = false
is_out_of_place gs (Some man) m = not (is_known gs (cell_of_man (arrives man m.promo)) m.to)

-- the man that makes the move arrives where the set has no such man
abbrev pub leaves : List GroupLine → Board → Step → Bool
leaves gs p m = is_out_of_place gs (man_on p m.from) m
