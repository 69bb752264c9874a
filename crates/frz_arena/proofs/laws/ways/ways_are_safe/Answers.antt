use Rattle.frz_arena.proofs.Ways.SafeWays.{safe_way}
use Rattle.frz_arena.proofs.laws.ways.ways_are_safe.Goals as goal

pub returns : goal.returns
returns g c = safe_way
