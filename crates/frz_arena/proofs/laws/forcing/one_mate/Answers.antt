use Rattle.frz_arena.proofs.Forcing.OneForces.{one_forces}
use Rattle.frz_arena.proofs.laws.forcing.one_mate.Goals as goal

pub returns : goal.returns
returns g c = one_forces
