use Rattle.frz_plane_arms.proofs.CollectedCaptures.{AreKingArmsBelow}
use Rattle.frz_plane_arms.proofs.taking.king_arms.Given as goal

abbrev pub invariant-loop-s : goal.invariant-loop-s
invariant-loop-s l = AreKingArmsBelow l.set l.p l.arms.items l.s
