use Rattle.std.proofs.Common.{◌≤◌, drop, length}
use Rattle.frz_configurations.specs.Joined.{IsJoined}
use Rattle.frz_configurations.proofs.configurations.Configurations.joined.Given as goal

abbrev pub invariant-loop-k : goal.invariant-loop-k
invariant-loop-k l = record {
  whole : IsJoined (drop l.k l.self.rules.now.groups) l.configuration l.white l.black l.joined;
  within : l.k ≤ length l.self.rules.now.groups;
}

abbrev pub decreases-loop-k : goal.decreases-loop-k
decreases-loop-k l = l.k
