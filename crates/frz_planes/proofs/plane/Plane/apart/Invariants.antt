use Rattle.std.specs.Prelude.{nat_le}
use Rattle.frz_squares.specs.Squares.{distance}
use Rattle.frz_squares.specs.SquareSets.{set_of}
use Rattle.frz_planes.proofs.Rows.{AreFilled}
use Rattle.frz_planes.proofs.plane.Plane.apart.Given as goal

abbrev pub invariant-loop-i : goal.invariant-loop-i
invariant-loop-i l = AreFilled (λ k. set_of (λ b. nat_le 2 (distance k b))) l.i l.row-items
