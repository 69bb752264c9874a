use Rattle.std.proofs.Common.{◌≤◌, ◌-◌}
use Rattle.frz_plane_arms.proofs.CollectedArms.{AreArmsBelow}
use Rattle.frz_plane_arms.proofs.men.men_arms.Given as goal

abbrev pub invariant-loop-k : goal.invariant-loop-k
invariant-loop-k l = (l.n ≤ 20480) × AreArmsBelow l.configurations.rules.now l.p l.arms.items l.n

abbrev pub decreases-loop-k : goal.decreases-loop-k
decreases-loop-k l = 20480 - l.n
