use Rattle.frz_chain.proofs.TrueValues.{chained_true}
use Rattle.frz_chain.proofs.laws.chained_exits_true.Goals as goal

pub returns : goal.returns
returns c = chained_true
