use Rattle.frz_plane_arms.proofs.Standing.{white_outside, white_stands}
use Rattle.frz_plane_arms.proofs.laws.steps_of_white_king.Goals as goal

pub returns-clause-inside : goal.returns-clause-inside
returns-clause-inside c = white_stands

pub returns-clause-outside : goal.returns-clause-outside
returns-clause-outside c = white_outside
