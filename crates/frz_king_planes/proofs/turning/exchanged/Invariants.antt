use Rattle.frz_planes.specs.Planes.{has_pair}
use Rattle.frz_king_planes.specs.Turning.{with_bit_of}
use Rattle.frz_king_planes.proofs.Rows.{AreRows}
use Rattle.frz_king_planes.proofs.turning.exchanged.Given as goal

abbrev pub invariant-loop-a : goal.invariant-loop-a
invariant-loop-a l =
    AreRows (λ a b. has_pair l.plane (with_bit_of l.i a b) (with_bit_of l.i b a)) l.a l.row-items
