use Rattle.frz_asks.proofs.Covering.{told_over}
use Rattle.frz_asks.proofs.laws.told.Goals as goal

pub returns : goal.returns
returns g c = told_over
