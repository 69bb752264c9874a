use Rattle.frz_game.proofs.Meaning.{table_means}
use Rattle.frz_game.proofs.laws.meaning.tables_mean.Goals as goal

pub returns : goal.returns
returns c = table_means
