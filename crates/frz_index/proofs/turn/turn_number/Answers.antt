use Rattle.std.proofs.Common.{arith}
use Rattle.frz_index.proofs.GroupSteps.{place_le}
use Rattle.frz_index.proofs.turn.turn_number.Goals as goal

pub overflow_add-result : goal.overflow_add-result
overflow_add-result c =
    omega (arith, c.place.ensures, place_le c.number.result c.args.targets.now, c.requires)
