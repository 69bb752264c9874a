use Rattle.frz_arena.proofs.Plies.Opposed.{wins_gives_fails}
use Rattle.frz_arena.proofs.laws.plies.opponent_fails.Goals as goal

pub returns : goal.returns
returns g c = wins_gives_fails
