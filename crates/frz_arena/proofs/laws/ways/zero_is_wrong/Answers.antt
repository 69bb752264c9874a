use Rattle.frz_arena.proofs.Ways.ZeroWays.{zero_way}
use Rattle.frz_arena.proofs.laws.ways.zero_is_wrong.Goals as goal

pub returns : goal.returns
returns g c = zero_way
