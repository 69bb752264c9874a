use Rattle.std.proofs.Common.{length}
use Rattle.frz_reasons.proofs.hold.+write_other.Given as goal

abbrev pub decreases-write_other : goal.decreases-write_other
decreases-write_other g l = length l.arms.now
