use Rattle.std.proofs.Common.{arith, get_or, bit_and, bit_or}
use Rattle.frz_squares.specs.SquareSets.{has_square}
use Rattle.frz_planes.proofs.Rows.{made_is, has-joined_row, kept}
use Rattle.frz_planes.proofs.plane.Plane.join_kept.Goals as goal

pub returns : goal.returns
returns c =
    rw (← c.self.view_is, ← c.other.view_is)
    (made_is (λ k v. bit_or v (bit_and (get_or c.other.inside.0 k 0) (kept (has_square c.args.white k) c.args.black))) _ c.loop-i.i c.self.inside.0 _ c.loop-i.invariant (omega arith)
    (λ a b la lb. has-joined_row (get_or c.self.inside.0 a 0) (get_or c.other.inside.0 a 0) c.args.black b (has_square c.args.white a)))
