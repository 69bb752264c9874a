use Rattle.frz_arena.proofs.Ways.SafeWays.{ply_moves}
use Rattle.frz_arena.proofs.laws.ways.plies_are_moves.Goals as goal

pub returns : goal.returns
returns g c = ply_moves
