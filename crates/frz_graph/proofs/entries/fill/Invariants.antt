use Rattle.std.proofs.Common.{◌≡◌, map, take}
use Rattle.frz_graph.specs.EntryCodes.{arm_code}
use Rattle.frz_graph.proofs.entries.fill.Given as goal

abbrev pub invariant-loop-arm : goal.invariant-loop-arm
invariant-loop-arm g l =
    l.codes.items ≡ map (arm_code l.side (g.E.Entries.codes l.entries l.side))
    (take l.arm-index l.arm-items)
