use Rattle.frz_arena.proofs.Exactness.ExactWins.{exact_plies, exact_least}
use Rattle.frz_arena.proofs.Exactness.ExactFailures.{exact_failure_plies, exact_failure_least}
use Rattle.frz_arena.proofs.laws.exactness.exact_plies.Goals as goal

pub returns-clause-within : goal.returns-clause-within
returns-clause-within g c = exact_plies

pub returns-clause-least : goal.returns-clause-least
returns-clause-least g c = exact_least

pub returns-clause-failing : goal.returns-clause-failing
returns-clause-failing g c = exact_failure_plies

pub returns-clause-least_failing : goal.returns-clause-least_failing
returns-clause-least_failing g c = exact_failure_least
