-- Which exit line decides a position: the first all of whose conditions hold.
use Rattle.std.specs.Prelude.{ℕ, List, Option}
use Rattle.std.specs.List.{position_from}
use Rattle.frz_board.specs.Boards.{Board}
use Rattle.frz_sets.specs.Views.{ExitLine}
use Rattle.frz_exits.specs.Conditions.{conditions_hold}

-- the place of that line; the first line has place 0
abbrev pub line_at : List ExitLine → Board → Option ℕ
line_at lines q = position_from (λ line. conditions_hold q line.conds) 0 lines
