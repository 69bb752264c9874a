use Rattle.frz_arena.specs.Games.{arena_of}
use Rattle.frz_arena.proofs.Ways.Turns.{game_turns, numbers_turn}
use Rattle.frz_arena.proofs.laws.sessions.sides_move_in_turn.Goals as goal

pub returns-clause-game : goal.returns-clause-game
returns-clause-game g c = game_turns

pub returns-clause-numbers : goal.returns-clause-numbers
returns-clause-numbers g c game changes numbers law =
    numbers_turn numbers (arena_of game) law (game_turns game changes)
