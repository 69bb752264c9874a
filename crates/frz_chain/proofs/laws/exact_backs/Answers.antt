use Rattle.frz_chain.proofs.DecidedBacks.{chain_decided}
use Rattle.frz_chain.proofs.laws.exact_backs.Goals as goal

pub returns : goal.returns
returns c = chain_decided
