use Rattle.std.proofs.Common.{map, take}
use Rattle.frz_arena.specs.Best.{IsBest}
use Rattle.frz_graph.specs.EntryCodes.{arm_code}
use Rattle.frz_graph.specs.FreeCodes.{counted_codes}
use Rattle.frz_graph.proofs.local_code.turn_code_by.Given as goal

abbrev pub invariant-loop-arm : goal.invariant-loop-arm
invariant-loop-arm g l =
    IsBest l.own (counted_codes l.own (take l.arm-index l.arm-items)
    (take l.arm-index (map (arm_code l.side (g.E.Entries.codes l.entries l.side)) l.arm-items)))
    l.best
