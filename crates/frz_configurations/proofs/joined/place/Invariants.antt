use Rattle.std.proofs.Common.{◌≡◌, ◌-◌, ◌≤◌, ℕ, Some, length}
use Rattle.std.specs.List.{slice_get}
use Rattle.frz_board.specs.declared.man.Kind.TheVariants.{King}
use Rattle.frz_configurations.proofs.joined.place.Given as goal

abbrev pub invariant-loop-group : goal.invariant-loop-group
invariant-loop-group l =
    (j : ℕ) → slice_get l.group.states j ≡ Some (King, l.square) → l.k ≤ j

abbrev pub decreases-loop-group : goal.decreases-loop-group
decreases-loop-group l = length l.group.states - l.k
