use Rattle.frz_asks.proofs.Later.{changing}
use Rattle.frz_asks.proofs.laws.changing.Goals as goal

pub returns : goal.returns
returns g c = changing
