use Rattle.frz_asks.proofs.Over.{ran_over}
use Rattle.frz_asks.proofs.laws.ran_over.Goals as goal

pub returns : goal.returns
returns g c = ran_over
