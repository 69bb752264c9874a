use Rattle.frz_game.proofs.TrueValues.{true_value, true_exits}
use Rattle.frz_game.proofs.laws.exits.true_values.Goals as goal

pub returns-clause-value : goal.returns-clause-value
returns-clause-value c = true_value

pub returns-clause-exits : goal.returns-clause-exits
returns-clause-exits c = true_exits
