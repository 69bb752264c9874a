use Rattle.frz_graph.proofs.LocalCodes.{arms_within}
use Rattle.frz_graph.proofs.laws.within.Goals as goal

pub returns : goal.returns
returns c = arms_within
