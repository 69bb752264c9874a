use Rattle.frz_exits.proofs.Classes as lemma
use Rattle.frz_exits.proofs.laws.opposed.Goals as goal

pub returns : goal.returns
returns c = lemma.opposed
