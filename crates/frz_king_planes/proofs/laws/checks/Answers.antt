use Rattle.frz_king_planes.proofs.ValidPairs.{checked}
use Rattle.frz_king_planes.proofs.laws.checks.Goals as goal

pub returns : goal.returns
returns _ p a b c fit la lb free kings = checked p fit a b la lb free c kings
