use Rattle.frz_arena.proofs.Forcing.LawfulGame.{game_is_lawful}
use Rattle.frz_arena.proofs.laws.forcing.games_are_lawful.Goals as goal

pub returns : goal.returns
returns g c = game_is_lawful
