-- The one file of a text: its header, and behind it the tables of both sides.
use Rattle.std.specs.Prelude.{◌≡◌, List, ℕ}
use Rattle.frz_board.specs.Boards.{Board}
use Rattle.frz_board.specs.declared.man.Colour.TheVariants.{White, Black}
use Rattle.frz_sets.specs.declared.exit.Value.{Value}
use Rattle.frz_sets.specs.Sets.{size_of}
use Rattle.frz_sets.specs.Views.{RuleLines}
use Rattle.frz_game.specs.Bounds.{IsTableOf}
use Rattle.frz_table.specs.Layout.{file_of}

-- the bytes are the file with this magic and this text that holds the tables of both sides, by the
-- values of a book
pub record IsOneFile (magic text : List ℕ) (rules : RuleLines) (value : Board → Value)
    (bytes : List ℕ) : Type 0 where
  pub white : List ℕ
  pub black : List ℕ
  pub white_table : IsTableOf rules value White white
  pub black_table : IsTableOf rules value Black black
  pub whole : bytes ≡ file_of magic text (size_of rules.groups) white black
