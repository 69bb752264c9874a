-- What it means that `chaincheck` has ended with status 0.
use Rattle.std.specs.Prelude.{◌≡◌, ℕ, List, Some, Ok}
use Rattle.frz_board.specs.declared.man.Colour.TheVariants.{White, Black}
use Rattle.frz_exits.specs.Books.{value_by}
use Rattle.frz_game.specs.Bounds.{IsTableOf}
use Rattle.frz_game.specs.ExactBounds.{TableIsExactWhereFree}
use Rattle.frz_game.specs.ExactTables.{HasExactOutcomes, AreDecidedOutside}
use Rattle.frz_game.specs.Meaning.{TableMeans}
use Rattle.frz_game.specs.Values.{AreTrueExits}
use Rattle.frz_rules.specs.Text.{rules_of}
use Rattle.frz_sets.specs.Sets.{size_of}
use Rattle.frz_sets.specs.Views.{RuleLines}
use Rattle.frz_store.specs.Files.{Files}
use Rattle.frz_table.specs.declared.kind.FileKind.TheVariants.{Plain, Chained}
use Rattle.frz_table.specs.Layout.{codes_at, magic_of}
use Rattle.frz_table.specs.Tables.{IsTableFile}
use Rattle.frz_check.specs.OneFile.{IsOneFile}
use Rattle.frz_chain.specs.Books.{Back, back_with, chain_value}
use Rattle.frz_chain.specs.ChainPlies.{MatesOnBack}
use Rattle.frz_chain.specs.DecidedBacks.{AreLinesOrBehind}
use Rattle.frz_chain.specs.FileOn.{IsExactBack, IsFileOn}

-- BACK is an exact table by its own exit lines, and TABLE is an exact table over BACK
pub record ChainHeadline (table back : List ℕ) (files : Files) : Type 0 where
  -- BACK holds a text that is accepted, and behind the text the tables of both sides
  pub back_bytes : List ℕ
  pub back_there : files back ≡ Some back_bytes
  pub back_text : List ℕ
  pub back_rules : RuleLines
  pub back_accepted : rules_of back_text ≡ Ok back_rules
  pub back_layout : IsTableFile (magic_of Plain) back_text (size_of back_rules.groups) back_bytes
  pub behind : Back
  pub behind_is : back_with back_rules.groups
      (codes_at White back_text (size_of back_rules.groups) back_bytes)
      (codes_at Black back_text (size_of back_rules.groups) back_bytes) ≡ behind
  pub back_exact : IsExactBack back_rules (value_by back_rules) behind
  pub back_one_file :
      IsOneFile (magic_of Plain) back_text back_rules (value_by back_rules) back_bytes
  -- TABLE holds a text that is accepted, and behind the text the tables of both sides. Its exits
  -- have the values of its exit lines, and of BACK where these say nothing
  pub bytes : List ℕ
  pub there : files table ≡ Some bytes
  pub text : List ℕ
  pub rules : RuleLines
  pub accepted : rules_of text ≡ Ok rules
  pub layout : IsTableFile (magic_of Chained) text (size_of rules.groups) bytes
  pub white : List ℕ
  pub black : List ℕ
  pub white_is : codes_at White text (size_of rules.groups) bytes ≡ white
  pub black_is : codes_at Black text (size_of rules.groups) bytes ≡ black
  pub white_table : IsTableOf rules (chain_value rules behind) White white
  pub black_table : IsTableOf rules (chain_value rules behind) Black black
  pub one_file : IsFileOn text rules behind bytes
  -- a win forces mate, or a position outside the set whose value is a win, within its plies and
  -- against every legal reply. That position may lie beyond an exit of another value, as an unknown
  -- one. Where the exits are true the win forces mate, and with a win or a hold the opponent cannot
  -- force mate
  pub white_means : TableMeans rules (chain_value rules behind) White white
  pub black_means : TableMeans rules (chain_value rules behind) Black black
  -- the exits of TABLE are true where the exit lines of both texts are true
  pub true_exits : AreTrueExits rules (value_by rules)
      → AreTrueExits back_rules (value_by back_rules)
      → AreTrueExits rules (chain_value rules behind)
  -- where the exits of both are true, and their lines give the plies of the side's wins, a win
  -- within n forces mate within n plies and those of the longest win in BACK, as MatesOnBack says
  pub white_mates : MatesOnBack rules back_rules (value_by back_rules) behind White
  pub black_mates : MatesOnBack rules back_rules (value_by back_rules) behind Black
  -- where no line of BACK forbids a side a move, its codes in BACK are exact in chess as
  -- TableMeansExactly says; and so are those in TABLE, with BACK behind its exit lines
  pub back_white_exact : TableIsExactWhereFree back_rules (value_by back_rules) White behind.white
  pub back_black_exact : TableIsExactWhereFree back_rules (value_by back_rules) Black behind.black
  pub white_exact : TableIsExactWhereFree rules (chain_value rules behind) White white
  pub black_exact : TableIsExactWhereFree rules (chain_value rules behind) Black black
  -- where the outcomes in BACK are those of chess, and each way out of TABLE's set is decided by an
  -- exit line or lies in BACK's set, each value outside TABLE's set decides the game
  pub decided : HasExactOutcomes back_rules White behind.white →
      HasExactOutcomes back_rules Black behind.black →
      AreLinesOrBehind rules back_rules behind →
      AreDecidedOutside rules (chain_value rules behind)
