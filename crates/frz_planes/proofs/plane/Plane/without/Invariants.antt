use Rattle.std.proofs.Common.{get_or, bit_and, bit_xor}
use Rattle.frz_planes.proofs.Rows.{AreMade}
use Rattle.frz_planes.proofs.plane.Plane.without.Given as goal

abbrev pub invariant-loop-i : goal.invariant-loop-i
invariant-loop-i l =
    AreMade (λ k v. bit_xor v (bit_and v (get_or l.other-inside.0 k 0))) l.i l.initial.row-items l.row-items
