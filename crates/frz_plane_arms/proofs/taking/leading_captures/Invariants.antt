use Rattle.frz_plane_arms.proofs.LedByCaptures.{AreTaken}
use Rattle.frz_plane_arms.proofs.taking.leading_captures.Given as goal

abbrev pub invariant-loop-arm : goal.invariant-loop-arm
invariant-loop-arm l =
    AreTaken l.lines l.turn l.arms l.live l.lives l.planes l.into l.arm-index l.pairs
