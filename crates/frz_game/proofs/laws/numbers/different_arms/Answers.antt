use Rattle.frz_game.proofs.DifferentArms as lemma
use Rattle.frz_game.proofs.laws.numbers.different_arms.Goals as goal

pub returns : goal.returns
returns c = lemma.different_arms
