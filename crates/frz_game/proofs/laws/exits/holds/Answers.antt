use Rattle.frz_game.proofs.Bounded.{hold_safe, win_safe}
use Rattle.frz_game.proofs.laws.exits.holds.Goals as goal

pub returns-clause-hold : goal.returns-clause-hold
returns-clause-hold c = hold_safe

pub returns-clause-win : goal.returns-clause-win
returns-clause-win c = win_safe
