use Rattle.std.proofs.Common.{◌<◌, arith, length}
use Rattle.std.specs.Prelude.{nat_le}
use Rattle.frz_squares.specs.Squares.{distance}
use Rattle.frz_squares.specs.SquareSets.{set_of}
use Rattle.frz_squares.proofs.Lemmas.{has-set_of}
use Rattle.frz_planes.proofs.Rows.{filled_is, filled_more}
use Rattle.frz_planes.proofs.plane.Plane.apart.Goals as goal

pub loop-i-preserved : goal.loop-i-preserved
loop-i-preserved c =
    let size : c.loop-i.i < length c.loop-i.row-items = omega arith in
    filled_more (λ k. set_of (λ b. nat_le 2 (distance k b))) c.loop-i.i c.apart_from.result
    c.loop-i.row-items size c.apart_from.ensures c.loop-i.invariant

pub returns : goal.returns
returns c =
    filled_is (λ k. set_of (λ b. nat_le 2 (distance k b))) _ c.loop-i.i _ c.loop-i.invariant
    (omega arith) (λ a b la lb. has-set_of (λ s. nat_le 2 (distance a s)) b lb)
