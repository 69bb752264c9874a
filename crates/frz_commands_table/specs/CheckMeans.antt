-- What the answers of `check TABLE` mean, and what it is to do.
use Rattle.std.specs.Prelude.{◌≡◌, ℕ, List, [], ◌∷◌, true, false, Some, None, Ok}
use Rattle.frz_exits.specs.Books.{value_by}
use Rattle.frz_game.specs.Games.{graph_by}
use Rattle.frz_game.specs.declared.wrong.Wrong.{Wrong}
use Rattle.frz_rules.specs.Text.{rules_of}
use Rattle.frz_sets.specs.Sets.{size_of}
use Rattle.frz_sets.specs.Views.{RuleLines}
use Rattle.frz_store.specs.Files.{Files}
use Rattle.frz_table.specs.declared.kind.FileKind.TheVariants.{Plain}
use Rattle.frz_table.specs.Layout.{magic_of}
use Rattle.frz_table.specs.Opening.{Contents}
use Rattle.frz_check.specs.Kept.{kept_codes}
use Rattle.frz_check.specs.OneFile.{IsOneFile}
use Rattle.frz_check.specs.Verdicts.{IsFirstWrong}
use Rattle.frz_answer.specs.declared.status.Status.{Status}
use Rattle.frz_answer.specs.declared.status.Status.TheVariants as statuses
use Rattle.frz_answer.specs.Answers.{Answer}
use Rattle.frz_answer.specs.Jobs.{Job, Once, plain, WithinCosts}
use Rattle.frz_answer.specs.Words.{taking, one_word_of}
use Rattle.frz_prelude.specs.Replies.{exact_line}
use Rattle.frz_prelude.specs.TableFiles.{OpensAs, TellsTableFault}
use Rattle.frz_prelude.specs.WrongLines.{wrong_line}
use Rattle.frz_commands_table.specs.Checking.{IsCheckedAt, checking_costs}
use Rattle.frz_commands_table.specs.Headline.{Headline}

-- the table is exact, and the text tells its size
pub record TellsExact (table : List ℕ) (files : Files) (text : List ℕ) : Type 0 where
  pub exact : Headline table files
  pub told : text ≡ exact_line (size_of exact.rules.groups)

-- the file opens, and the text tells its first entry that is not its local code. Entries go by
-- number, White's before Black's
pub record TellsWrong (table : List ℕ) (files : Files) (text : List ℕ) : Type 0 where
  pub bytes : List ℕ
  pub contents : Contents
  pub open_file : OpensAs table files bytes contents
  pub wrong : Wrong
  pub first : IsFirstWrong (graph_by contents.rules (value_by contents.rules))
      (size_of contents.rules.groups)
      (kept_codes contents bytes) wrong
  pub told : text ≡ wrong_line wrong

-- what an answer says, by its status
abbrev pub MeansStatus : List ℕ → Files → Status → List ℕ → Type 0
MeansStatus table files statuses.Success text = TellsExact table files text
MeansStatus table files statuses.Wrong text = TellsWrong table files text
MeansStatus table files statuses.Table text = TellsTableFault table files text
MeansStatus table files statuses.Missing text = files table ≡ None
MeansStatus table files status text = ⊥

-- the name holds the one file of a text that is accepted
pub record HoldsOneFile (table : List ℕ) (files : Files) : Type 0 where
  pub bytes : List ℕ
  pub there : files table ≡ Some bytes
  pub text : List ℕ
  pub rules : RuleLines
  pub accepted : rules_of text ≡ Ok rules
  pub one_file : IsOneFile (magic_of Plain) text rules (value_by rules) bytes

-- what an answer of `check` means: it changes no file and takes no input, each status has its
-- cause, and the one file of an accepted text is found exact
pub record MeansCheck (table : List ℕ) (files : Files) (a : Answer) : Type 0 where
  pub same : a.files ≡ files
  pub untaken : a.taken ≡ 0
  pub says : MeansStatus table files a.status a.text
  pub accepts : HoldsOneFile table files → a.status ≡ statuses.Success

-- `check` of the table of this name
abbrev pub checking_at : List ℕ → Job
checking_at table =
    record (plain (statuses.Success ∷ statuses.Wrong ∷ statuses.Table ∷ statuses.Missing ∷ [])
    (λ files input a. IsCheckedAt table files a)) {
      means = λ files input a. MeansCheck table files a;
      needs = record { store = true; reads = Once; input = false; memory = true };
      costs = λ files input a. WithinCosts (checking_costs (files table));
    }

-- check TABLE
abbrev pub check_words : List (List ℕ) → Job
check_words words = taking checking_at (one_word_of words)
