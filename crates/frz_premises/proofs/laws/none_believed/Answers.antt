use Rattle.frz_premises.proofs.ManyTexts.{none_hold}
use Rattle.frz_premises.proofs.TrueLines.{none_holds}
use Rattle.frz_premises.proofs.laws.none_believed.Goals as goal

pub returns-clause-rules : goal.returns-clause-rules
returns-clause-rules c = none_holds

pub returns-clause-tables : goal.returns-clause-tables
returns-clause-tables c = none_hold
