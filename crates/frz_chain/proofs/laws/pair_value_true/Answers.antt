use Rattle.frz_chain.proofs.TrueValues.{back_true}
use Rattle.frz_chain.proofs.laws.pair_value_true.Goals as goal

pub returns : goal.returns
returns c = back_true
