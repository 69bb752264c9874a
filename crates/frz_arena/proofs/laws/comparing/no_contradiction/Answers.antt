use Rattle.frz_arena.proofs.Comparing.Agreeing.{other_fails, no_contradiction}
use Rattle.frz_arena.proofs.laws.comparing.no_contradiction.Goals as goal

pub returns-clause-fails : goal.returns-clause-fails
returns-clause-fails g c = other_fails

pub returns-clause-bound : goal.returns-clause-bound
returns-clause-bound g c = no_contradiction
