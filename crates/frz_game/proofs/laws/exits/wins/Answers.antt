use Rattle.frz_arena.proofs.Lemmas.{wins_forces, wins_mates, wins_mates_in}
use Rattle.frz_game.specs.Games.{game_of}
use Rattle.frz_game.proofs.TrueValues.{true_exits}
use Rattle.frz_game.proofs.laws.exits.wins.Goals as goal

pub returns-clause-goals : goal.returns-clause-goals
returns-clause-goals c rules value side n p b = wins_forces (game_of rules value) side n p b.0

pub returns-clause-mates : goal.returns-clause-mates
returns-clause-mates c rules value exits side n p b =
    wins_mates (game_of rules value) (true_exits rules value exits) side n p b.0

pub returns-clause-within : goal.returns-clause-within
returns-clause-within c rules value exits side all n p b =
    wins_mates_in (game_of rules value) (true_exits rules value exits) side all n p b.0
