use Rattle.frz_asks.proofs.Loops.{calls-bind, over-bind}
use Rattle.frz_asks.proofs.laws.joined.Goals as goal

pub returns : goal.returns
returns g c = record { gives = over-bind; calls = calls-bind }
