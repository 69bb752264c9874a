use Rattle.frz_premises.proofs.Needs as lemma
use Rattle.frz_premises.proofs.laws.believed_exits.Goals as goal

pub returns : goal.returns
returns c = lemma.believed_needs_belief
