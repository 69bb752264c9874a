use Rattle.std.proofs.Common.{◌-◌, ◌≤◌}
use Rattle.frz_pair_moves.proofs.tests.steps_of_men.Given as goal

abbrev pub invariant-loop-k : goal.invariant-loop-k
invariant-loop-k g l = l.n ≤ 20480

abbrev pub decreases-loop-k : goal.decreases-loop-k
decreases-loop-k g l = 20480 - l.n
