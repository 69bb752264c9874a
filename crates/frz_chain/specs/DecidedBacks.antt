-- Where the exit lines and the back table together decide the game outside the set.
use Rattle.std.specs.Prelude.{◌≡◌, ◌⊎◌, true}
use Rattle.frz_board.specs.Boards.{Board}
use Rattle.frz_sets.specs.declared.exit.Value.TheVariants.{Unknown}
use Rattle.frz_sets.specs.Views.{RuleLines}
use Rattle.frz_index.specs.Members.{Member}
use Rattle.frz_arena.specs.Exits.{IsExit}
use Rattle.frz_exits.specs.Books.{value_by}
use Rattle.frz_game.specs.ExactTables.{is_decided}
use Rattle.frz_game.specs.Games.{game_of}
use Rattle.frz_chain.specs.Books.{Back, chain_value}

-- for each exit, an exit line says who wins or that the game is drawn, or no exit line says
-- anything and the position is in the set of the back table
abbrev pub AreLinesOrBehind : RuleLines → RuleLines → Back → Type 0
AreLinesOrBehind rules backs back =
    (q : Board) → IsExit (game_of rules (chain_value rules back)) q →
    (is_decided (value_by rules q) ≡ true)
    ⊎ ((value_by rules q ≡ Unknown) × Member backs.groups q)
