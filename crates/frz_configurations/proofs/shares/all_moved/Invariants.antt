use Rattle.std.proofs.Common.{◌≡◌, ◌<◌, ℕ, length, slice_index}
use Rattle.frz_configurations.specs.Configurations.{IsSplit}
use Rattle.frz_configurations.specs.Joined.{IsKingSquare, of_colour}
use Rattle.frz_configurations.proofs.shares.all_moved.Given as goal

abbrev pub invariant-loop-square : goal.invariant-loop-square
invariant-loop-square l = record {
  size : length l.numbers ≡ 64;
  moved : (s : ℕ) → s < l.square → IsKingSquare l.configurations.rules.now.groups l.colour s
      → IsSplit l.configurations.rules.now.groups (slice_index l.numbers s) l.origin.configuration
      (of_colour l.colour s l.origin.white) (of_colour l.colour l.origin.black s);
}
