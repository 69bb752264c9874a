use Rattle.frz_plane_arms.proofs.Standing.{man_stands}
use Rattle.frz_plane_arms.proofs.laws.steps_of_men.Goals as goal

pub returns : goal.returns
returns c = man_stands
