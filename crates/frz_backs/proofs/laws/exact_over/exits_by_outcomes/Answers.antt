use Rattle.frz_backs.proofs.ExactOver as lemma
use Rattle.frz_backs.proofs.laws.exact_over.exits_by_outcomes.Goals as goal

pub returns : goal.returns
returns c = lemma.exits_by_outcomes
