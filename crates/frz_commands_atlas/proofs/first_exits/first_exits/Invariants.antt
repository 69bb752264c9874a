use Rattle.std.proofs.Common.{◌≡◌, List, map, take}
use Rattle.frz_board.specs.Boards.{Board}
use Rattle.frz_report.specs.Walks.{KeepsFirsts}
use Rattle.frz_commands_atlas.specs.FirstExits.{row_among}
use Rattle.frz_commands_atlas.proofs.first_exits.first_exits.Given as goal

abbrev pub invariant-loop-position : goal.invariant-loop-position
invariant-loop-position l = (exits : List Board)
    → KeepsFirsts l.census.classes.entries l.census.firsts.items exits
    → l.rows.items ≡ map (row_among exits) (take l.position-index l.firsts)
