use Rattle.frz_graph.proofs.LocalCodes as lemma
use Rattle.frz_graph.proofs.laws.filled.Goals as goal

pub returns : goal.returns
returns c = lemma.filled
