use Rattle.frz_game.proofs.WholeSets.{whole_set_drawn}
use Rattle.frz_game.proofs.laws.men.whole_sets.Goals as goal

pub returns : goal.returns
returns c = whole_set_drawn
