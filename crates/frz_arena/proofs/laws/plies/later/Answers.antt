use Rattle.frz_arena.proofs.Plies.Opposed.{wins_later, fails_later}
use Rattle.frz_arena.proofs.laws.plies.later.Goals as goal

pub returns-clause-wins : goal.returns-clause-wins
returns-clause-wins g c = wins_later

pub returns-clause-fails : goal.returns-clause-fails
returns-clause-fails g c = fails_later
