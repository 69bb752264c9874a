use Rattle.frz_arena.proofs.Forcing.WinsForced.{wins_forces}
use Rattle.frz_arena.proofs.Forcing.TrueWins.{wins_mates, wins_mates_in}
use Rattle.frz_arena.proofs.laws.forcing.wins_are_forced.Goals as goal

pub returns-clause-goals : goal.returns-clause-goals
returns-clause-goals g c = wins_forces

pub returns-clause-mates : goal.returns-clause-mates
returns-clause-mates g c = wins_mates

pub returns-clause-within : goal.returns-clause-within
returns-clause-within g c = wins_mates_in
