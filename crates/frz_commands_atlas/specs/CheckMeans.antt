-- What the answers of `check TABLE BACK ..` mean, and what it is to do.
use Rattle.std.specs.Prelude.{◌≡◌, ℕ, List, [], ◌∷◌, map, true, false, Some, Ok}
use Rattle.frz_rules.specs.Text.{rules_of}
use Rattle.frz_sets.specs.Sets.{size_of}
use Rattle.frz_sets.specs.Views.{RuleLines}
use Rattle.frz_store.specs.Files.{Files}
use Rattle.frz_check.specs.declared.verdict.Verdict.TheVariants.{Wrong as WrongVerdict}
use Rattle.frz_game.specs.declared.wrong.Wrong.{Wrong}
use Rattle.frz_answer.specs.declared.status.Status.{Status}
use Rattle.frz_answer.specs.declared.status.Status.TheVariants as statuses
use Rattle.frz_answer.specs.Answers.{Answer}
use Rattle.frz_answer.specs.Jobs.{Job, Once, plain, WithinCosts}
use Rattle.frz_answer.specs.Words.{taking, unless}
use Rattle.frz_prelude.specs.WrongLines.{wrong_line}
use Rattle.frz_atlas.specs.Behind.{TableBytes, backs_in}
use Rattle.frz_atlas.specs.Checking.{sizes_in}
use Rattle.frz_atlas.specs.FileOver.{IsOwnFile}
use Rattle.frz_atlas_prelude.specs.Names.{file_names_of, has_twice}
use Rattle.frz_atlas_prelude.specs.TableRefusals.{RefusesBehind, RefusesTable}
use Rattle.frz_atlas_prelude.specs.Tables.{AreTablesIn}
use Rattle.frz_commands_atlas.specs.AtlasHeadline.{AtlasHeadline}
use Rattle.frz_commands_atlas.specs.Checking.{IsCheckedAt, IsJudgedAtlas, check_costs, exact_over_line}

-- all tables are exact, and the text tells their sizes
pub record TellsExactOver (table : List ℕ) (behind : List (List ℕ)) (files : Files)
    (text : List ℕ) : Type 0 where
  pub exact : AtlasHeadline table behind files
  pub told : text ≡ exact_over_line (size_of exact.rules.groups) (sizes_in exact.tables)

-- the BACKs are exact, and the text tells the first entry of TABLE that is not its local code over
-- them
pub record TellsWrongOver (table : List ℕ) (behind : List (List ℕ)) (files : Files)
    (text : List ℕ) : Type 0 where
  pub wrong : Wrong
  pub first : IsJudgedAtlas (files table) (map files behind) (WrongVerdict wrong)
  pub told : text ≡ wrong_line wrong

-- TABLE is refused, or one of the BACKs
pub data TellsFault (table : List ℕ) (behind : List (List ℕ)) (files : Files)
    (a : Answer) : Type 0 where
  of_table : RefusesTable table files a → TellsFault table behind files a
  of_back : RefusesBehind table behind files a → TellsFault table behind files a

pub data TellsWrong (table : List ℕ) (behind : List (List ℕ)) (files : Files)
    (a : Answer) : Type 0 where
  of_entry : TellsWrongOver table behind files a.text → TellsWrong table behind files a
  of_fault : TellsFault table behind files a → TellsWrong table behind files a

-- what an answer says, by its status
abbrev pub MeansStatus : List ℕ → List (List ℕ) → Files → Answer → Status → Type 0
MeansStatus table behind files a statuses.Success = TellsExactOver table behind files a.text
MeansStatus table behind files a statuses.Wrong = TellsWrong table behind files a
MeansStatus table behind files a statuses.Table = TellsFault table behind files a
MeansStatus table behind files a statuses.Missing = TellsFault table behind files a
MeansStatus table behind files a status = ⊥

-- the BACKs hold tables that are exact, each over those before it, and TABLE holds the one file of
-- its kind of an accepted text, over all of them where it leans on them
pub record HoldsAtlas (table : List ℕ) (behind : List (List ℕ)) (files : Files) : Type 0 where
  pub tables : List TableBytes
  pub behind_it : AreTablesIn (map files behind) tables
  pub bytes : List ℕ
  pub there : files table ≡ Some bytes
  pub text : List ℕ
  pub rules : RuleLines
  pub accepted : rules_of text ≡ Ok rules
  pub one_file : IsOwnFile text rules (backs_in tables) bytes

-- what an answer of `check` means: it changes no file and takes no input, each status has its
-- cause, and the one file of a text over exact tables is found exact
pub record MeansCheck (table : List ℕ) (behind : List (List ℕ)) (files : Files)
    (a : Answer) : Type 0 where
  pub same : a.files ≡ files
  pub untaken : a.taken ≡ 0
  pub says : MeansStatus table behind files a a.status
  pub accepts : HoldsAtlas table behind files → a.status ≡ statuses.Success

-- `check` with names no two of which are the same
abbrev pub checking_at : List ℕ → List (List ℕ) → Job
checking_at table behind = record (plain
    (statuses.Success ∷ statuses.Wrong ∷ statuses.Table ∷ statuses.Missing ∷ [])
    (λ files input a. IsCheckedAt table behind files a)) {
      means = λ files input a. MeansCheck table behind files a;
      needs = record { store = true; reads = Once; input = false; memory = true };
      costs = λ files input a. WithinCosts (check_costs (files table) (map files behind));
    }

-- check TABLE BACK ..
abbrev pub check_words : List (List ℕ) → Job
check_words words =
    taking (λ names. unless (has_twice words) (checking_at names.0 names.1))
    (file_names_of words)
