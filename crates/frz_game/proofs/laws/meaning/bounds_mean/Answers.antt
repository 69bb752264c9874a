use Rattle.frz_game.proofs.Meaning.{bound_means, wins_alone}
use Rattle.frz_game.proofs.laws.meaning.bounds_mean.Goals as goal

pub returns-clause-bound : goal.returns-clause-bound
returns-clause-bound c = bound_means

pub returns-clause-alone : goal.returns-clause-alone
returns-clause-alone c = wins_alone
