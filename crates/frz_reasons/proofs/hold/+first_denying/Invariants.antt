use Rattle.std.proofs.Common.{length}
use Rattle.frz_reasons.proofs.hold.+first_denying.Given as goal

abbrev pub decreases-first_denying : goal.decreases-first_denying
decreases-first_denying g l = length l.arms.now
