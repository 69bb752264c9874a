use Rattle.std.proofs.Common.{arith, get_or, bit_and}
use Rattle.frz_squares.specs.SquareSets.{has_square}
use Rattle.frz_planes.proofs.Rows.{made_is, has-kept_row, kept}
use Rattle.frz_planes.proofs.plane.Plane.keep.Goals as goal

pub returns : goal.returns
returns c =
    rw (← c.self.view_is)
    (made_is (λ k v. bit_and v (kept (has_square c.args.white k) c.args.black)) _ c.loop-i.i c.self.inside.0 _ c.loop-i.invariant (omega arith)
    (λ a b la lb. has-kept_row (get_or c.self.inside.0 a 0) c.args.black b (has_square c.args.white a)))
