use Rattle.std.proofs.Common.{arith, get_or, bit_or}
use Rattle.frz_planes.proofs.Rows.{made_is, has-joined}
use Rattle.frz_planes.proofs.plane.Plane.union_with.Goals as goal

pub returns : goal.returns
returns c =
    rw (← c.self.view_is, ← c.other.view_is)
    (made_is (λ k v. bit_or v (get_or c.other.inside.0 k 0)) _ c.loop-i.i c.self.inside.0 _ c.loop-i.invariant (omega arith)
    (λ a b la lb. has-joined (get_or c.self.inside.0 a 0) (get_or c.other.inside.0 a 0) b))
