use Rattle.std.proofs.Common.{arith}
use Rattle.frz_planes.proofs.Rows.{put_pair}
use Rattle.frz_planes.proofs.plane.Plane.put.Goals as goal

pub returns : goal.returns
returns c x y lx ly =
    rw (← c.self.view_is)
    (put_pair c.self.inside.0 c.args.a c.args.b x y (omega (arith, c.self.told)) c.requires.black ly)
