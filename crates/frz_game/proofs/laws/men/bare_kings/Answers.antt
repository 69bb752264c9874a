use Rattle.frz_game.proofs.MenAlone.{bare_never, hold_is_right}
use Rattle.frz_game.proofs.laws.men.bare_kings.Goals as goal

pub returns-clause-never : goal.returns-clause-never
returns-clause-never c = bare_never

pub returns-clause-right : goal.returns-clause-right
returns-clause-right c = hold_is_right
