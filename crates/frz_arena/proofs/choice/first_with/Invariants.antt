use Rattle.std.proofs.Common.{◌≡◌, ◌<◌, ℕ, false, Some}
use Rattle.std.specs.Prelude.{slice_get}
use Rattle.frz_arena.specs.declared.choice.Choice.{Choice}
use Rattle.frz_arena.specs.Choices.{has_code}
use Rattle.frz_arena.proofs.choice.first_with.Given as goal

abbrev pub invariant-loop-place : goal.invariant-loop-place
invariant-loop-place l =
    (j : ℕ) (y : Choice) → j < l.place → slice_get l.choices j ≡ Some y → has_code l.code y ≡ false
