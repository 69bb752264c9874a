use Rattle.std.proofs.Common.{◌≤◌, drop, length}
use Rattle.frz_configurations.specs.Parts.{IsParted}
use Rattle.frz_configurations.proofs.configurations.Configurations.parts.Given as goal

abbrev pub invariant-loop-k : goal.invariant-loop-k
invariant-loop-k l = record {
  parted : IsParted (drop l.k l.self.rules.now.groups) l.number l.parts;
  within : l.k ≤ length l.self.rules.now.groups;
}

abbrev pub decreases-loop-k : goal.decreases-loop-k
decreases-loop-k l = l.k
