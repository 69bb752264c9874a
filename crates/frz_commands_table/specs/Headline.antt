-- The headline: what it means that `check` has ended with status 0.
use Rattle.std.specs.Prelude.{◌≡◌, ℕ, true, List, Some, Ok}
use Rattle.frz_board.specs.declared.man.Colour.TheVariants.{White, Black}
use Rattle.frz_exits.specs.Books.{value_by}
use Rattle.frz_game.specs.Bounds.{IsTableOf}
use Rattle.frz_game.specs.ExactBounds.{TableIsExactWhereFree}
use Rattle.frz_game.specs.Meaning.{TableMeans}
use Rattle.frz_game.specs.TextsByMen.{are_true_by_men}
use Rattle.frz_game.specs.Values.{AreTrueExits}
use Rattle.frz_rules.specs.Text.{rules_of}
use Rattle.frz_sets.specs.Sets.{size_of}
use Rattle.frz_sets.specs.Views.{RuleLines}
use Rattle.frz_store.specs.Files.{Files}
use Rattle.frz_table.specs.declared.kind.FileKind.TheVariants.{Plain}
use Rattle.frz_table.specs.Layout.{magic_of, codes_at}
use Rattle.frz_table.specs.Tables.{IsTableFile}
use Rattle.frz_check.specs.OneFile.{IsOneFile}

-- the table of this name is exact
pub record Headline (table : List ℕ) (files : Files) : Type 0 where
  -- a file has the name
  pub bytes : List ℕ
  pub there : files table ≡ Some bytes
  -- a rules text stands in it, which is accepted
  pub text : List ℕ
  pub rules : RuleLines
  pub accepted : rules_of text ≡ Ok rules
  -- behind the text and the size of its set come White's codes and then Black's, one for each
  -- number
  pub layout : IsTableFile (magic_of Plain) text (size_of rules.groups) bytes
  pub white : List ℕ
  pub black : List ℕ
  pub white_is : codes_at White text (size_of rules.groups) bytes ≡ white
  pub black_is : codes_at Black text (size_of rules.groups) bytes ≡ black
  -- the codes stand for the values of the restricted game, with least plies; broken numbers have 0
  pub white_table : IsTableOf rules (value_by rules) White white
  pub black_table : IsTableOf rules (value_by rules) Black black
  -- so the file is the one file of its text
  pub one_file : IsOneFile (magic_of Plain) text rules (value_by rules) bytes
  -- a win forces mate, or a position outside the set whose value is a win, within its plies and
  -- against every legal reply. That position may lie beyond an exit of another value, as an unknown
  -- one. Where the exits are true the win forces mate, and with a win or a hold the opponent cannot
  -- force mate
  pub white_means : TableMeans rules (value_by rules) White white
  pub black_means : TableMeans rules (value_by rules) Black black
  -- where the exit lines are true by the men (the men that their conditions leave show it), the
  -- exits are true
  pub true_by_men : are_true_by_men rules ≡ true → AreTrueExits rules (value_by rules)
  -- where no line forbids a side a move, its codes are exact in chess as TableMeansExactly says.
  -- For instance, where each way out of the set is drawn by the men, a win within n is a mate in
  -- exactly n plies, a failure is a mate by the opponent in exactly its plies, and with a hold
  -- neither side can force mate
  pub white_exact : TableIsExactWhereFree rules (value_by rules) White white
  pub black_exact : TableIsExactWhereFree rules (value_by rules) Black black
