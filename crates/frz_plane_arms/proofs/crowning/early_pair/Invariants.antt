use Rattle.std.proofs.Common.{◌≤◌}
use Rattle.frz_plane_arms.proofs.crowning.early_pair.Given as goal

abbrev pub invariant-loop : goal.invariant-loop
invariant-loop l = l.n ≤ 4096
