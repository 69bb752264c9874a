use Rattle.std.proofs.Common.{arith, get_or, bit_xor}
use Rattle.frz_planes.proofs.Rows.{made_is, has-turned}
use Rattle.frz_planes.proofs.plane.Plane.complement.Goals as goal

pub returns : goal.returns
returns c =
    rw (← c.self.view_is)
    (made_is (λ k v. bit_xor v 18446744073709551615) _ c.loop-row.row-index c.self.inside.0 _ c.loop-row.invariant (omega (arith, c.self.told))
    (λ a b la lb. has-turned (get_or c.self.inside.0 a 0) b lb))
