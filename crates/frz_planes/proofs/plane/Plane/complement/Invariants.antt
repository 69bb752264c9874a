use Rattle.std.proofs.Common.{bit_xor}
use Rattle.frz_planes.proofs.Rows.{AreMade}
use Rattle.frz_planes.proofs.plane.Plane.complement.Given as goal

abbrev pub invariant-loop-row : goal.invariant-loop-row
invariant-loop-row l =
    AreMade (λ k v. bit_xor v 18446744073709551615) l.row-index l.initial.row-items l.row-items
