use Rattle.frz_premises.proofs.ManyTexts as lemma
use Rattle.frz_premises.proofs.laws.tables_are_true.Goals as goal

pub returns : goal.returns
returns c = lemma.all_true
