-- What the answers of `chaincheck TABLE BACK` mean, and what it is to do.
use Rattle.std.specs.Prelude.{◌≡◌, ℕ, List, [], ◌∷◌, true, false, Some, Ok}
use Rattle.frz_exits.specs.Books.{value_by}
use Rattle.frz_rules.specs.Text.{rules_of}
use Rattle.frz_sets.specs.Sets.{size_of}
use Rattle.frz_sets.specs.Views.{RuleLines}
use Rattle.frz_store.specs.Files.{Files}
use Rattle.frz_table.specs.declared.kind.FileKind.TheVariants.{Plain}
use Rattle.frz_table.specs.Layout.{magic_of}
use Rattle.frz_table.specs.Opening.{Contents}
use Rattle.frz_check.specs.declared.verdict.Verdict.TheVariants.{Wrong as WrongVerdict}
use Rattle.frz_check.specs.OneFile.{IsOneFile}
use Rattle.frz_game.specs.declared.wrong.Wrong.{Wrong}
use Rattle.frz_chain.specs.FileOn.{IsFileOn, back_of}
use Rattle.frz_answer.specs.declared.status.Status.{Status}
use Rattle.frz_answer.specs.declared.status.Status.TheVariants as statuses
use Rattle.frz_answer.specs.Answers.{Answer}
use Rattle.frz_answer.specs.Jobs.{Job, Once, plain, WithinCosts}
use Rattle.frz_answer.specs.Words.{taking, two_words_of}
use Rattle.frz_prelude.specs.Refusals.{refusal_line, status_of}
use Rattle.frz_prelude.specs.Replies.{exact_on_line}
use Rattle.frz_prelude.specs.WrongLines.{wrong_line}
use Rattle.frz_prelude.specs.declared.refused.Refused.{Refused}
use Rattle.frz_commands_chain.specs.ChainHeadline.{ChainHeadline}
use Rattle.frz_commands_chain.specs.Checking.{IsCheckedPair, IsJudgedPair, IsRefusedPair, pair_costs}

-- both tables are exact, and the text tells their sizes
pub record TellsExactOn (table back : List ℕ) (files : Files) (text : List ℕ) : Type 0 where
  pub exact : ChainHeadline table back files
  pub told : text ≡ exact_on_line (size_of exact.rules.groups) (size_of exact.behind.groups)

-- the file of one of the names is refused with this status, and the text says why
pub record TellsRefusal (table back : List ℕ) (files : Files) (status : Status)
    (text : List ℕ) : Type 0 where
  pub why : Refused
  pub refused : IsRefusedPair (files table) (files back) why
  pub status_is : status ≡ status_of why
  pub told : text ≡ refusal_line why

-- BACK is exact, and the text tells the first entry of TABLE that is not its local code over BACK
pub record TellsWrongOn (table back : List ℕ) (files : Files) (text : List ℕ) : Type 0 where
  pub wrong : Wrong
  pub first : IsJudgedPair (files table) (files back) (WrongVerdict wrong)
  pub told : text ≡ wrong_line wrong

-- an entry of TABLE is wrong, or an entry of BACK
pub data TellsWrong (table back : List ℕ) (files : Files) (text : List ℕ) : Type 0 where
  of_table : TellsWrongOn table back files text → TellsWrong table back files text
  of_back : TellsRefusal table back files statuses.Wrong text → TellsWrong table back files text

-- what an answer says, by its status
abbrev pub MeansStatus : List ℕ → List ℕ → Files → Status → List ℕ → Type 0
MeansStatus table back files statuses.Success text = TellsExactOn table back files text
MeansStatus table back files statuses.Wrong text = TellsWrong table back files text
MeansStatus table back files statuses.Table text = TellsRefusal table back files statuses.Table text
MeansStatus table back files statuses.Missing text =
    TellsRefusal table back files statuses.Missing text
MeansStatus table back files status text = ⊥

-- BACK holds the one file of an accepted text, and TABLE the one file of another text over BACK
pub record HoldsPair (table back : List ℕ) (files : Files) : Type 0 where
  pub back_bytes : List ℕ
  pub back_there : files back ≡ Some back_bytes
  pub back_contents : Contents
  pub back_accepted : rules_of back_contents.text ≡ Ok back_contents.rules
  pub back_file :
      IsOneFile (magic_of Plain) back_contents.text back_contents.rules
      (value_by back_contents.rules) back_bytes
  pub bytes : List ℕ
  pub there : files table ≡ Some bytes
  pub text : List ℕ
  pub rules : RuleLines
  pub accepted : rules_of text ≡ Ok rules
  pub one_file : IsFileOn text rules (back_of back_contents back_bytes) bytes

-- what an answer of `chaincheck` means: it changes no file and takes no input, each status has its
-- cause, and the one file of a text over the one file of another is found exact
pub record MeansChainCheck (table back : List ℕ) (files : Files) (a : Answer) : Type 0 where
  pub same : a.files ≡ files
  pub untaken : a.taken ≡ 0
  pub says : MeansStatus table back files a.status a.text
  pub accepts : HoldsPair table back files → a.status ≡ statuses.Success

-- `chaincheck` of these names
abbrev pub checking_pair : List ℕ → List ℕ → Job
checking_pair table back = record (plain
    (statuses.Success ∷ statuses.Wrong ∷ statuses.Table ∷ statuses.Missing ∷ [])
    (λ files input a. IsCheckedPair table back files a)) {
      means = λ files input a. MeansChainCheck table back files a;
      needs = record { store = true; reads = Once; input = false; memory = true };
      costs = λ files input a. WithinCosts (pair_costs (files table) (files back));
    }

-- chaincheck TABLE BACK
abbrev pub chaincheck_words : List (List ℕ) → Job
chaincheck_words words = taking (λ names. checking_pair names.0 names.1) (two_words_of words)
