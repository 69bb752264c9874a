use Rattle.std.proofs.Common.{take}
use Rattle.frz_arena.specs.Best.{IsBest}
use Rattle.frz_graph.specs.FreeCodes.{counted_codes}
use Rattle.frz_graph.proofs.local_code.turn_code.Given as goal

abbrev pub invariant-loop-i : goal.invariant-loop-i
invariant-loop-i l =
    IsBest l.own (counted_codes l.own (take l.i l.list.items) (take l.i l.codes.items)) l.best
