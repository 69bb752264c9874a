-- What it means that `check` has ended with status 0.
use Rattle.std.specs.Prelude.{◌≡◌, ℕ, true, List, map, All, Some, Ok}
use Rattle.frz_board.specs.declared.man.Colour.TheVariants.{White, Black}
use Rattle.frz_exits.specs.Books.{value_by}
use Rattle.frz_game.specs.Bounds.{IsTableOf}
use Rattle.frz_game.specs.ExactBounds.{TableIsExactWhereFree}
use Rattle.frz_game.specs.ExactTables.{AreDecidedOutside}
use Rattle.frz_game.specs.Meaning.{TableMeans}
use Rattle.frz_game.specs.TextsByMen.{are_true_by_men}
use Rattle.frz_game.specs.Values.{AreTrueExits}
use Rattle.frz_rules.specs.Text.{rules_of}
use Rattle.frz_sets.specs.Sets.{size_of}
use Rattle.frz_sets.specs.Views.{RuleLines}
use Rattle.frz_store.specs.Files.{Files}
use Rattle.frz_table.specs.Layout.{codes_at, magic_of}
use Rattle.frz_table.specs.Tables.{IsTableFile}
use Rattle.frz_atlas.specs.Decided.{AreLinesOrTables, HasBothOutcomes}
use Rattle.frz_atlas.specs.ExactOver.{HasOutcomesOver}
use Rattle.frz_atlas.specs.LinkPlies.{MatesOver}
use Rattle.frz_atlas.specs.Links.{AreExact, AreTrueLines, Link, backs_of, own_over, value_over}
use Rattle.frz_atlas.specs.Values.{atlas_value}
use Rattle.frz_atlas.specs.Behind.{AreJudged, TableBytes, kind_of, leans, link_of}
use Rattle.frz_atlas.specs.FileOver.{IsOwnFile}
use Rattle.frz_atlas.specs.Held.{all_held}

-- what more is known of a table that leans on exact tables
pub record HeadlineOver (rules : RuleLines) (links : List Link) (white black : List ℕ)
    : Type 0 where
  -- where the exit lines of all texts are true, the side's wins count in all BACKs, and TABLE's lines
  -- give the plies of its wins, a win within n forces mate within n plies
  pub white_mates : MatesOver rules links White
  pub black_mates : MatesOver rules links Black
  -- where the outcomes in the BACKs are those of chess, and each way out of TABLE's set is decided
  -- by an exit line or lies in the set of a BACK, each value outside TABLE's set decides the game
  pub decided : All HasBothOutcomes links → AreLinesOrTables rules links →
      AreDecidedOutside rules (atlas_value rules (backs_of links))
  -- the outcomes of a side's codes in TABLE are those of chess under the three conditions that
  -- HasOutcomesOver names
  pub white_outcomes : HasOutcomesOver rules links White white
  pub black_outcomes : HasOutcomesOver rules links Black black

-- the BACKs are exact tables, each over those before it where it leans on them, and TABLE is an
-- exact table, over all of them where it leans on them
pub record AtlasHeadline (table : List ℕ) (behind : List (List ℕ)) (files : Files) : Type 0 where
  -- each BACK holds the one file of an accepted text, with the tables of both sides
  pub tables : List TableBytes
  pub behind_there : map files behind ≡ all_held tables
  pub behind_judged : AreJudged tables
  pub links : List Link
  pub links_are : map link_of tables ≡ links
  pub behind_exact : AreExact links
  -- TABLE holds a text that is accepted, and behind the text the tables of both sides. Its exits
  -- have the values of its exit lines and, where it leans, of the BACKs where these say nothing
  pub bytes : List ℕ
  pub there : files table ≡ Some bytes
  pub text : List ℕ
  pub rules : RuleLines
  pub accepted : rules_of text ≡ Ok rules
  pub layout : IsTableFile (magic_of (kind_of bytes)) text (size_of rules.groups) bytes
  pub white : List ℕ
  pub black : List ℕ
  pub white_is : codes_at White text (size_of rules.groups) bytes ≡ white
  pub black_is : codes_at Black text (size_of rules.groups) bytes ≡ black
  pub white_table : IsTableOf rules (value_over (leans bytes) rules (backs_of links)) White white
  pub black_table : IsTableOf rules (value_over (leans bytes) rules (backs_of links)) Black black
  pub one_file : IsOwnFile text rules (backs_of links) bytes
  -- a win forces mate, or a position outside the set whose value is a win, within its plies and
  -- against every legal reply. That position may lie beyond an exit of another value, as an unknown
  -- one. Where the exits are true the win forces mate, and with a win or a hold the opponent cannot
  -- force mate
  pub white_means : TableMeans rules (value_over (leans bytes) rules (backs_of links)) White white
  pub black_means : TableMeans rules (value_over (leans bytes) rules (backs_of links)) Black black
  -- the exits of TABLE are true where the exit lines of all texts are true
  pub true_exits : AreTrueExits rules (own_over (leans bytes) rules (backs_of links)) →
      AreTrueLines links → AreTrueExits rules (value_over (leans bytes) rules (backs_of links))
  -- where its exit lines are true by the men (the men that their conditions leave show it), they
  -- are true
  pub true_by_men : are_true_by_men rules ≡ true → AreTrueExits rules (value_by rules)
  -- where no line of TABLE forbids a side a move, its codes there are exact in chess as
  -- TableMeansExactly says
  pub white_exact :
      TableIsExactWhereFree rules (value_over (leans bytes) rules (backs_of links)) White white
  pub black_exact :
      TableIsExactWhereFree rules (value_over (leans bytes) rules (backs_of links)) Black black
  -- a table that leans tells more
  pub over : leans bytes ≡ true → HeadlineOver rules links white black
