use Rattle.std.proofs.Common.{arith}
use Rattle.frz_planes.specs.Planes.{has_pair}
use Rattle.frz_king_planes.specs.Turning.{with_bit_of}
use Rattle.frz_king_planes.proofs.Rows.{row_more}
use Rattle.frz_king_planes.proofs.turning.exchanged.Goals as goal

pub loop-a-preserved : goal.loop-a-preserved
loop-a-preserved c =
    row_more
    (λ a b. has_pair c.args.plane.now (with_bit_of c.args.i a b) (with_bit_of c.args.i b a))
    c.loop-a.a _ c.loop-a.row-items (omega arith) c.exchanged_row.ensures c.loop-a.invariant
