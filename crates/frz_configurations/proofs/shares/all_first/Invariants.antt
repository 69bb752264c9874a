use Rattle.std.proofs.Common.{◌≡◌, ◌<◌, ℕ, length, slice_index}
use Rattle.frz_configurations.specs.Configurations.{IsSplit}
use Rattle.frz_configurations.proofs.shares.all_first.Given as goal

abbrev pub invariant-loop-configuration : goal.invariant-loop-configuration
invariant-loop-configuration l = record {
  size : length l.numbers.items ≡ l.configuration;
  each : (k : ℕ) → k < l.configuration
      → IsSplit l.configurations.rules.now.groups (slice_index l.numbers.items k) k
      l.origin.white l.origin.black;
}
