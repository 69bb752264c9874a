use Rattle.frz_planes.proofs.Rows.{all_in}
use Rattle.frz_planes.proofs.plane.Plane.full.Goals as goal

pub returns : goal.returns
returns c = all_in
