use Rattle.std.proofs.Common.{◌≡◌, ◌≢◌, ◌<◌, ℕ, Some, false}
use Rattle.std.specs.List.{slice_get}
use Rattle.frz_board.specs.Men.{cell_of_man}
use Rattle.frz_sets.specs.Sets.{is_state}
use Rattle.frz_sets.specs.Views.{GroupLine}
use Rattle.frz_index.proofs.shares.is_alone.Given as goal

abbrev pub invariant-loop-j : goal.invariant-loop-j
invariant-loop-j l =
    (k : ℕ) (g : GroupLine) → k < l.j → k ≢ l.own → slice_get l.groups k ≡ Some g →
    is_state (cell_of_man l.man) l.s g ≡ false
