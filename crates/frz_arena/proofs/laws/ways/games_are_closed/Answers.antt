use Rattle.frz_arena.specs.Games.{arena_of}
use Rattle.frz_arena.proofs.Ways.RightWays.{game_closed, numbers_closed}
use Rattle.frz_arena.proofs.laws.ways.games_are_closed.Goals as goal

pub returns-clause-game : goal.returns-clause-game
returns-clause-game g c = game_closed

pub returns-clause-numbers : goal.returns-clause-numbers
returns-clause-numbers g c game numbers law =
    numbers_closed numbers (arena_of game) law (game_closed game)
