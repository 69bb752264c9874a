use Rattle.frz_game.proofs.MenAlone.{dead_never}
use Rattle.frz_game.proofs.laws.men.dead_men.Goals as goal

pub returns : goal.returns
returns c = dead_never
