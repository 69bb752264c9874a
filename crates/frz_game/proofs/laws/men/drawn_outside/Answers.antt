use Rattle.frz_game.proofs.DecidedExits.{drawn_decided}
use Rattle.frz_game.proofs.DrawnOutside.{drawn_true}
use Rattle.frz_game.proofs.laws.men.drawn_outside.Goals as goal

pub returns-clause-exits : goal.returns-clause-exits
returns-clause-exits c = drawn_true

pub returns-clause-decided : goal.returns-clause-decided
returns-clause-decided c = drawn_decided
