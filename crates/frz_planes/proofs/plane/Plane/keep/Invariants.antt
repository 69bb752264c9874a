use Rattle.std.proofs.Common.{bit_and}
use Rattle.frz_squares.specs.SquareSets.{has_square}
use Rattle.frz_planes.proofs.Rows.{AreMade, kept}
use Rattle.frz_planes.proofs.plane.Plane.keep.Given as goal

abbrev pub invariant-loop-i : goal.invariant-loop-i
invariant-loop-i l =
    AreMade (λ k v. bit_and v (kept (has_square l.white k) l.black)) l.i l.initial.row-items l.row-items
