use Rattle.frz_planes.proofs.Rows.{none_in}
use Rattle.frz_planes.proofs.plane.Plane.empty.Goals as goal

pub returns : goal.returns
returns c = none_in
