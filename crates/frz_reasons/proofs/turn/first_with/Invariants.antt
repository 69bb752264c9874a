use Rattle.std.proofs.Common.{ℕ, ◌<◌}
use Rattle.frz_reasons.specs.Places.{IsOneAt}
use Rattle.frz_reasons.proofs.turn.first_with.Given as goal

abbrev pub invariant-loop-place : goal.invariant-loop-place
invariant-loop-place l =
    (j : ℕ) → j < l.place → IsOneAt l.own l.code l.list.items l.codes.items j → ⊥
