-- The restricted game of rules and a book, as an arena of positions and as one of numbers.
use Rattle.std.specs.Prelude.{ℕ}
use Rattle.frz_board.specs.Boards.{Board}
use Rattle.frz_board.specs.Moving.{Step}
use Rattle.frz_board.specs.Attacks.{is_in_check}
use Rattle.frz_fide.specs.Legal.{after}
use Rattle.frz_fide.specs.Listing.{legal_moves_of}
use Rattle.frz_sets.specs.declared.exit.Value.{Value}
use Rattle.frz_sets.specs.Views.{RuleLines}
use Rattle.frz_arena.specs.declared.arm.Arm.{Arm}
use Rattle.frz_arena.specs.Arena.{Arena}
use Rattle.frz_arena.specs.Chess.{Chess}
use Rattle.frz_arena.specs.Games.{Game, arena_of, arm_of}
use Rattle.frz_arena.specs.Names.{named, name_in, numbers_of}
use Rattle.frz_graph.specs.Values.{class_of, lag_of, is_numbered}
use Rattle.frz_graph.specs.Forbidding.{is_free}
use Rattle.frz_game.specs.Numbers.{is_member, numbers_by}

-- chess: who is to move, whether his king is attacked, his legal moves, and the position after one
abbrev pub chess : Chess Board Step
chess = record {
  turn = λ p. p.turn;
  in_check = λ p. is_in_check p p.turn;
  moves = legal_moves_of;
  play = after;
}

-- the game of the rules, with the values of a book
abbrev pub game_of : RuleLines → (Board → Value) → Game Board Step Value
game_of rules value = record {
  chess = chess;
  member = is_member rules.groups;
  free = λ p m. is_free rules p.turn p m;
  value = value;
  class = class_of;
  lag = lag_of;
  numbered = is_numbered;
}

-- the game of the rules as an arena of positions
abbrev pub arena_by : RuleLines → (Board → Value) → Arena Step Board Value
arena_by rules value = arena_of (game_of rules value)

-- the game of the rules as an arena of numbers
abbrev pub graph_by : RuleLines → (Board → Value) → Arena Step ℕ Value
graph_by rules value = numbers_of (numbers_by rules.groups) (arena_by rules value)

-- a legal move of a position, over numbers
unfoldable pub arm_at : RuleLines → (Board → Value) → Board → Step → Arm Step ℕ Value
arm_at rules value p m =
    named (name_in (numbers_by rules.groups)) (arm_of (game_of rules value) p m)
