-- The first exit whose value decides nothing.
use Rattle.std.specs.Prelude.{◌≡◌, not, Bool, false, find, Some}
use Rattle.frz_board.specs.Boards.{Board}
use Rattle.frz_sets.specs.declared.exit.Value.{Value}
use Rattle.frz_sets.specs.Views.{RuleLines}
use Rattle.frz_arena.specs.Exits.{IsExit}
use Rattle.frz_game.specs.ExactTables.{is_decided}
use Rattle.frz_game.specs.Games.{game_of}
use Rattle.frz_premises.specs.WaysOut.{outside_of}

-- the value of the position says neither who wins nor that the game is drawn
abbrev pub is_open : (Board → Value) → Board → Bool
is_open value q = not (is_decided (value q))

-- it is the first exit, by number and move, whose value decides nothing
pub record IsUndecided (rules : RuleLines) (value : Board → Value) (q : Board) : Type 0 where
  pub first : find (is_open value) (outside_of rules.groups) ≡ Some q
  pub is_exit : IsExit (game_of rules value) q
  pub undecided : is_decided (value q) ≡ false
