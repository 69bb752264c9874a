use Rattle.frz_check.proofs.OneVerdict.{one_verdict, verdict_there}
use Rattle.frz_check.proofs.laws.one_verdict.Goals as goal

pub returns-clause-there : goal.returns-clause-there
returns-clause-there c = verdict_there

pub returns-clause-one : goal.returns-clause-one
returns-clause-one c rules value = one_verdict rules value (c.tables.ensures.exact rules value)
