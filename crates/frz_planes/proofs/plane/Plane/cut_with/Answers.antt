use Rattle.std.proofs.Common.{arith, get_or, bit_and}
use Rattle.frz_planes.proofs.Rows.{made_is, has-cut}
use Rattle.frz_planes.proofs.plane.Plane.cut_with.Goals as goal

pub returns : goal.returns
returns c =
    rw (← c.self.view_is, ← c.other.view_is)
    (made_is (λ k v. bit_and v (get_or c.other.inside.0 k 0)) _ c.loop-i.i c.self.inside.0 _ c.loop-i.invariant (omega arith)
    (λ a b la lb. has-cut (get_or c.self.inside.0 a 0) (get_or c.other.inside.0 a 0) b))
