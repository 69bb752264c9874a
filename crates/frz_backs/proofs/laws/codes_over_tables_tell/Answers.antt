use Rattle.frz_backs.proofs.Transfer.{codes_tell}
use Rattle.frz_backs.proofs.laws.codes_over_tables_tell.Goals as goal

pub returns : goal.returns
returns c = codes_tell
