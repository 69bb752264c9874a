use Rattle.std.proofs.Common.{get_or}
use Rattle.frz_squares.specs.SquareSets.{has_square, set_of}
use Rattle.frz_squares.specs.Steps.{any_step}
use Rattle.frz_planes.proofs.Rows.{AreFilled}
use Rattle.frz_planes.proofs.plane.Plane.step_black.Given as goal

abbrev pub invariant-loop-i : goal.invariant-loop-i
invariant-loop-i l =
    AreFilled (λ k. set_of (λ s. any_step s (has_square (get_or l.self-inside.0 k 0)))) l.i
    l.row-items
