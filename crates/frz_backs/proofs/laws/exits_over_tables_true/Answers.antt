use Rattle.frz_backs.proofs.TrueTables.{exits_over_true}
use Rattle.frz_backs.proofs.laws.exits_over_tables_true.Goals as goal

pub returns : goal.returns
returns c = exits_over_true
