use Rattle.frz_chain.proofs.ChainPlies.{chain_within}
use Rattle.frz_chain.proofs.laws.plies_over_a_chain.Goals as goal

pub returns : goal.returns
returns c = chain_within
