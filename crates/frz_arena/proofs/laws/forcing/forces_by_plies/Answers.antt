use Rattle.frz_arena.proofs.Forcing.ByPlies.{by_plies, of_plies}
use Rattle.frz_arena.proofs.laws.forcing.forces_by_plies.Goals as goal

pub returns : goal.returns
returns g c chess goals side n p = (by_plies chess goals side n p, of_plies chess goals side n p)
