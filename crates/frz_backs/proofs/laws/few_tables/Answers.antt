use Rattle.frz_backs.proofs.FirstValue.{lines_alone}
use Rattle.frz_backs.proofs.laws.few_tables.Goals as goal

pub returns : goal.returns
returns c = lines_alone
