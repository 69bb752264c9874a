use Rattle.frz_plane_arms.proofs.LedByMen.{AreLed}
use Rattle.frz_plane_arms.proofs.led.leading_men.Given as goal

abbrev pub invariant-loop-arm : goal.invariant-loop-arm
invariant-loop-arm l =
    AreLed l.arms l.only_free l.live l.lives l.planes l.into l.arm-index l.pairs
