use Rattle.frz_arena.proofs.Comparing.Agreeing.{true_wins, true_holds}
use Rattle.frz_arena.proofs.laws.comparing.true_for_each.Goals as goal

pub returns-clause-wins : goal.returns-clause-wins
returns-clause-wins g c = true_wins

pub returns-clause-holds : goal.returns-clause-holds
returns-clause-holds g c = true_holds
