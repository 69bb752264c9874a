use Rattle.std.proofs.Common.{arith}
use Rattle.frz_planes.proofs.Pairs.{join_none, join_more, join_empty}
use Rattle.frz_planes.proofs.plane.Plane.is_empty.Goals as goal

pub loop-row-init : goal.loop-row-init
loop-row-init c = join_none _

pub loop-row-preserved : goal.loop-row-preserved
loop-row-preserved c =
    join_more c.self.inside.0 c.loop-row.row-index c.loop-row.all c.loop-row.invariant

pub returns : goal.returns
returns c =
    rw (← c.self.view_is)
    (join_empty c.self.inside.0 c.loop-row.row-index c.loop-row.all (omega (arith, c.self.told))
    c.loop-row.auto.all-fits.fits c.loop-row.invariant)
