use Rattle.std.proofs.Common.{get_or, bit_and, bit_or}
use Rattle.frz_squares.specs.SquareSets.{has_square}
use Rattle.frz_planes.proofs.Rows.{AreMade, kept}
use Rattle.frz_planes.proofs.plane.Plane.join_kept.Given as goal

abbrev pub invariant-loop-i : goal.invariant-loop-i
invariant-loop-i l =
    AreMade (λ k v. bit_or v (bit_and (get_or l.other-inside.0 k 0) (kept (has_square l.white k) l.black))) l.i l.initial.row-items l.row-items
