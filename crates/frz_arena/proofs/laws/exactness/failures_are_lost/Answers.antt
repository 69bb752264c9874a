use Rattle.frz_arena.proofs.Exactness.ExactFailures.{fails_forced, fails_forced_within}
use Rattle.frz_arena.proofs.laws.exactness.failures_are_lost.Goals as goal

pub returns-clause-lost : goal.returns-clause-lost
returns-clause-lost g c = fails_forced

pub returns-clause-within : goal.returns-clause-within
returns-clause-within g c = fails_forced_within
