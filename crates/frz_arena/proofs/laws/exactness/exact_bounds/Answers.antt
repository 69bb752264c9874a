use Rattle.frz_arena.proofs.Exactness.ExactWins.{exact_win}
use Rattle.frz_arena.proofs.Exactness.ExactFailures.{exact_failure, exact_hold}
use Rattle.frz_arena.proofs.laws.exactness.exact_bounds.Goals as goal

pub returns-clause-win : goal.returns-clause-win
returns-clause-win g c = exact_win

pub returns-clause-failure : goal.returns-clause-failure
returns-clause-failure g c = exact_failure

pub returns-clause-hold : goal.returns-clause-hold
returns-clause-hold g c = exact_hold
