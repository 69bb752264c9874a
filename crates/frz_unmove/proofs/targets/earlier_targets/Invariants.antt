use Rattle.std.proofs.Common.{◌≡◌, ℕ, ◌<◌, ◌&&◌}
use Rattle.std.specs.Prelude.{◌==◌, take}
use Rattle.std.specs.List.{list_any}
use Rattle.frz_squares.specs.SquareSets.{has_square}
use Rattle.frz_unmove.specs.Gathering.{may_have_stood}
use Rattle.frz_unmove.proofs.targets.earlier_targets.Given as goal

abbrev pub invariant-loop-target : goal.invariant-loop-target
invariant-loop-target l =
    (t : ℕ) → t < 64
    → has_square l.word t
    ≡ (list_any (λ y. t == y) (take l.target-index l.target-items) && may_have_stood l.q l.to t)
