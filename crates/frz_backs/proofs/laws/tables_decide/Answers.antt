use Rattle.frz_backs.proofs.DecidedTables.{tables_decide}
use Rattle.frz_backs.proofs.laws.tables_decide.Goals as goal

pub returns : goal.returns
returns c = tables_decide
