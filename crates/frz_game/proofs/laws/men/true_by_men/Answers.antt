use Rattle.frz_game.proofs.MenAlone.{true_by_men, exits_by_men}
use Rattle.frz_game.proofs.laws.men.true_by_men.Goals as goal

pub returns-clause-value : goal.returns-clause-value
returns-clause-value c = true_by_men

pub returns-clause-exits : goal.returns-clause-exits
returns-clause-exits c = exits_by_men
