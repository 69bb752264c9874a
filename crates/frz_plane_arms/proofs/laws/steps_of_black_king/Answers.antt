use Rattle.frz_plane_arms.proofs.Standing.{black_outside, black_stands}
use Rattle.frz_plane_arms.proofs.laws.steps_of_black_king.Goals as goal

pub returns-clause-inside : goal.returns-clause-inside
returns-clause-inside c = black_stands

pub returns-clause-outside : goal.returns-clause-outside
returns-clause-outside c = black_outside
