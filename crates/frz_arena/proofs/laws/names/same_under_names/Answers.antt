use Rattle.frz_arena.proofs.Names.SameUnderNames.{same_wins, same_fails, same_bounds}
use Rattle.frz_arena.proofs.laws.names.same_under_names.Goals as goal

pub returns-clause-wins : goal.returns-clause-wins
returns-clause-wins g c = same_wins

pub returns-clause-fails : goal.returns-clause-fails
returns-clause-fails g c = same_fails

pub returns-clause-bound : goal.returns-clause-bound
returns-clause-bound g c = same_bounds
