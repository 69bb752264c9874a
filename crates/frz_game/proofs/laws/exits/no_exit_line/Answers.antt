use Rattle.frz_game.proofs.NoExits.{true_exits, numbered}
use Rattle.frz_game.proofs.laws.exits.no_exit_line.Goals as goal

pub returns-clause-true_exits : goal.returns-clause-true_exits
returns-clause-true_exits c = true_exits

pub returns-clause-numbered : goal.returns-clause-numbered
returns-clause-numbered c = numbered
