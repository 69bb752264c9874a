-- What the answers of `premises RULES BACK ..` mean.
use Rattle.std.specs.Prelude.{◌≡◌, ◌++◌, ℕ, Bool, true, false, List, [], ◌∷◌, length, map, slice_get, Some, Ok, ⊤}
use Rattle.frz_board.specs.declared.man.Colour.{Colour}
use Rattle.frz_board.specs.Boards.{Board}
use Rattle.frz_sets.specs.Views.{ExitLine, RuleLines}
use Rattle.frz_arena.specs.Exits.{IsExit}
use Rattle.frz_exits.specs.Books.{value_by}
use Rattle.frz_game.specs.Bounds.{IsTableOf}
use Rattle.frz_game.specs.Games.{game_of}
use Rattle.frz_game.specs.Values.{AreTrueExits, IsTrueValue}
use Rattle.frz_rules.specs.Text.{rules_of}
use Rattle.frz_store.specs.Files.{Files}
use Rattle.frz_atlas.specs.Links.{AreExact, AreTrueLines, Link}
use Rattle.frz_atlas.specs.Behind.{AreJudged, TableBytes}
use Rattle.frz_atlas.specs.Held.{all_held}
use Rattle.frz_exit_lines.specs.Numbers.{exit_numbers_of}
use Rattle.frz_exit_lines.specs.Saying.{exit_on_line}
use Rattle.frz_premises.specs.declared.basis.Basis.TheVariants.{Believed}
use Rattle.frz_premises.specs.Bases.{basis_of, is_believed}
use Rattle.frz_premises.specs.Deciding.{decides}
use Rattle.frz_premises.specs.Needs.{NeedsBelief}
use Rattle.frz_premises.specs.RestsOn.{RestsOn}
use Rattle.frz_answer.specs.declared.status.Status.{Status}
use Rattle.frz_answer.specs.declared.status.Status.TheVariants as statuses
use Rattle.frz_answer.specs.Answers.{Answer}
use Rattle.frz_atlas_prelude.specs.RulesRefusals.{Refuses}
use Rattle.frz_commands_premises.specs.PremiseLines.{TextLink, basis_lines, belief_among, built_value, leans_over, links_in, premises_text, strength_over, text_link_of}
use Rattle.frz_commands_premises.specs.SidesMean.{StrengthMeans}

-- what is told of the exit lines of a text, with these tables, on which it leans or not
pub record LinesMean (leans : Bool) (text : List ℕ) (rules : RuleLines) (links : List Link) : Type 0
  where
    -- there is a number for each exit line, and the line with this number says what the exit does
    pub numbered : length (exit_numbers_of text) ≡ length rules.exits
    pub said : (k n : ℕ) → slice_get (exit_numbers_of text) k ≡ Some n →
        exit_on_line text n ≡ slice_get rules.exits k
    -- a line that is not believed is true at each exit that it decides, where the exit lines of the
    -- tables are true
    pub not_believed : AreTrueLines links → (i : ℕ) (line : ExitLine) →
        slice_get rules.exits i ≡ Some line →
        is_believed (basis_of leans rules links i line) ≡ false → (q : Board) →
        IsExit (game_of rules (value_by rules)) q → decides leans rules links i q ≡ true →
        IsTrueValue line.value q
    -- what the word that is told of a line says of it, at every exit that it decides
    pub rests : (i : ℕ) (line : ExitLine) → slice_get rules.exits i ≡ Some line →
        RestsOn leans rules links i line (basis_of leans rules links i line)
    -- the line decides the position that is told of a believed one, which is an exit, and neither the
    -- men there nor a table show what it says
    pub believed : (i : ℕ) (line : ExitLine) (q : Board) →
        basis_of leans rules links i line ≡ Believed q →
        NeedsBelief leans rules (value_by rules) links i line q

-- so it is of each table's text, with the tables before it
unfoldable pub AllLinesMean : List Link → List TextLink → Type 0
AllLinesMean before [] = ⊤
AllLinesMean before (t ∷ more) =
    LinesMean t.link.leans t.text t.link.rules before × AllLinesMean (before ++ t.link ∷ []) more

-- RULES holds a text that is accepted, the BACKs hold tables that are exact, each over those before
-- it, and the text tells what their exit lines rest on
pub record TellsPremises (rules : List ℕ) (behind : List (List ℕ)) (files : Files)
    (text : List ℕ) : Type 0 where
  pub rules_text : List ℕ
  pub there : files rules ≡ Some rules_text
  pub lines : RuleLines
  pub accepted : rules_of rules_text ≡ Ok lines
  pub tables : List TableBytes
  pub behind_there : map files behind ≡ all_held tables
  pub behind_judged : AreJudged tables
  pub told : text ≡ premises_text rules_text lines tables
  pub texts : List TextLink
  pub texts_are : map text_link_of tables ≡ texts
  pub links : List Link
  pub links_are : links_in texts ≡ links
  pub behind_exact : AreExact links
  -- what is told of each exit line: of the BACKs, each with those before it, and of RULES, which
  -- lean on the BACKs where there is one
  pub behind_mean : AllLinesMean [] texts
  pub rules_mean : LinesMean (leans_over links) rules_text lines links
  -- where the text tells `believed 0`, the exits of the table of RULES over the BACKs, and of the
  -- plain one where there are none, are true in chess, with nothing assumed
  pub none_believed : belief_among (basis_lines rules_text lines texts) ≡ 0 →
      AreTrueExits lines (built_value lines links)
  -- what is told of each side is true of its codes in that table
  pub sides : (side : Colour) (codes : List ℕ) →
      IsTableOf lines (built_value lines links) side codes →
      StrengthMeans lines links side codes
      (strength_over lines links (belief_among (basis_lines rules_text lines texts)) side)

-- what an answer says, by its status
abbrev pub MeansStatus : List ℕ → List (List ℕ) → Files → Answer → Status → Type 0
MeansStatus rules behind files a statuses.Success = TellsPremises rules behind files a.text
MeansStatus rules behind files a status = Refuses rules behind files a

-- what an answer of `premises` means: it changes no file and takes no input, and each status has its
-- cause
pub record MeansPremises (rules : List ℕ) (behind : List (List ℕ)) (files : Files)
    (a : Answer) : Type 0 where
  pub same : a.files ≡ files
  pub untaken : a.taken ≡ 0
  pub says : MeansStatus rules behind files a a.status
