use Rattle.std.proofs.Common.{arith}
use Rattle.frz_planes.proofs.Rows.{set_row}
use Rattle.frz_planes.proofs.plane.Plane.set_row.Goals as goal

pub returns : goal.returns
returns c x y lx ly =
    rw (← c.self.view_is)
    (set_row c.self.inside.0 c.args.a c.args.row x y (omega (arith, c.self.told)))
