use Rattle.frz_backs.proofs.TrueTables.{told_true}
use Rattle.frz_backs.proofs.laws.tables_tell_true.Goals as goal

pub returns : goal.returns
returns c = told_true
