-- What `size RULES` is to do, and what its answers mean. No file changes.
use Rattle.std.specs.Prelude.{◌≡◌, ℕ, ◌+◌, ◌*◌, ◌≤◌, List, [], ◌∷◌, ◌++◌, length, true, false, Some, None, Result, Ok, Err, codes, decimal}
use Rattle.frz_board.specs.Boards.{Board}
use Rattle.frz_rules.specs.Text.{rules_of}
use Rattle.frz_rules.specs.declared.fault.RulesFault.{RulesFault}
use Rattle.frz_sets.specs.Sets.{radix_of, size_of, targets}
use Rattle.frz_sets.specs.Views.{GroupLine, RuleLines}
use Rattle.frz_sets.specs.declared.exit.Value.{Value}
use Rattle.frz_sets.specs.declared.limits.TheConstants.{MOST_NUMBERS}
use Rattle.frz_store.specs.Files.{Files, bytes_at}
use Rattle.frz_table.specs.declared.kind.FileKind.{FileKind}
use Rattle.frz_table.specs.Layout.{due_length, magic_of}
use Rattle.frz_check.specs.OneFile.{IsOneFile}
use Rattle.frz_answer.specs.declared.status.Status.{Status}
use Rattle.frz_answer.specs.declared.status.Status.TheVariants as statuses
use Rattle.frz_answer.specs.Answers.{Answer, says}
use Rattle.frz_answer.specs.Jobs.{Job, Once, plain, WithinCosts}
use Rattle.frz_answer.specs.Words.{taking, one_word_of}
use Rattle.frz_prelude.specs.Causes.{rules_line}
use Rattle.frz_prelude.specs.Refusals.{refusal_line, status_of}
use Rattle.frz_prelude.specs.RulesFiles.{asked_of, reads_of, rules_held}
use Rattle.frz_prelude.specs.declared.refused.Refused.{Refused}

-- a word and a number, on a line of their own
abbrev pub counted_line : List ℕ → ℕ → List ℕ
counted_line word count = word ++ decimal count ++ codes "\n"

-- how many turn states there are: White to move, Black to move, and one for each possible target
-- square of a capture en passant
abbrev pub turns_line : List GroupLine → List ℕ
turns_line groups = counted_line (codes "turns ") (2 + length (targets groups))

-- how many choices of men and squares the group with this number allows
abbrev pub group_line : ℕ → ℕ → List ℕ
group_line number choices =
    (codes "group " ++ decimal number) ++ counted_line (codes " ") choices

-- a line for each group; `number` is that of the first
abbrev pub group_lines_from : ℕ → List GroupLine → List ℕ
group_lines_from number [] = []
group_lines_from number (g ∷ groups) =
    group_line number (radix_of g) ++ group_lines_from (number + 1) groups

-- how many bytes the lists take that a build makes for both sides, for a set of this many numbers
abbrev pub most_memory : ℕ → ℕ
most_memory numbers = 16 * numbers

-- how many numbers there are, how many bytes the table file of this text takes, and how many bytes
-- of memory a build takes for them
abbrev pub totals_text : List ℕ → ℕ → List ℕ
totals_text text numbers =
    counted_line (codes "numbers ") numbers
    ++ (counted_line (codes "disk ") (due_length text numbers)
    ++ counted_line (codes "memory ") (most_memory numbers))

-- all lines of `size`, for these groups and this text
abbrev pub size_text : List ℕ → List GroupLine → List ℕ
size_text text groups =
    turns_line groups ++ (group_lines_from 1 groups ++ totals_text text (size_of groups))

-- the answer by the rules and the text that a name gives, or the line that says why it gives none
abbrev pub size_by : Result RuleLines Refused → List ℕ → Files → Answer
size_by (Ok rules) text files = says statuses.Success (size_text text rules.groups) files
size_by (Err why) text files = says (status_of why) (refusal_line why) files

abbrev pub size_at : List ℕ → Files → Answer
size_at rules files = size_by (rules_held (files rules)) (bytes_at files rules) files

-- the rules file is there and accepted, and the text tells what its set takes, which is not larger
-- than is allowed. Each table of this text has the told number of bytes, whatever values its exits
-- have
pub record TellsSize (rules : List ℕ) (files : Files) (text : List ℕ) : Type 0 where
  pub source : List ℕ
  pub there : files rules ≡ Some source
  pub lines : RuleLines
  pub accepted : rules_of source ≡ Ok lines
  pub told : text ≡ size_text source lines.groups
  pub few : size_of lines.groups ≤ MOST_NUMBERS
  pub disk : (kind : FileKind) (value : Board → Value) (bytes : List ℕ)
      → IsOneFile (magic_of kind) source lines value bytes
      → length bytes ≡ due_length source (size_of lines.groups)

-- the rules file is there, and the text names the first fault in it
pub record TellsFault (rules : List ℕ) (files : Files) (text : List ℕ) : Type 0 where
  pub source : List ℕ
  pub there : files rules ≡ Some source
  pub fault : RulesFault
  pub refused : rules_of source ≡ Err fault
  pub told : text ≡ rules_line fault

-- what an answer says, by its status
abbrev pub MeansStatus : List ℕ → Files → Status → List ℕ → Type 0
MeansStatus rules files statuses.Success text = TellsSize rules files text
MeansStatus rules files statuses.Rules text = TellsFault rules files text
MeansStatus rules files statuses.Missing text = files rules ≡ None
MeansStatus rules files status text = ⊥

-- what an answer of `size` means: it changes no file and takes no input, and each status has its
-- cause
pub record MeansSize (rules : List ℕ) (files : Files) (a : Answer) : Type 0 where
  pub same : a.files ≡ files
  pub untaken : a.taken ≡ 0
  pub says : MeansStatus rules files a.status a.text

-- `size` of the rules file of this name. It costs one `size` and one `read` of it, which is not
-- read where it is missing or too long
abbrev pub sizing_at : List ℕ → Job
sizing_at rules =
    record (plain (statuses.Success ∷ statuses.Rules ∷ statuses.Missing ∷ [])
    (λ files input a. a ≡ size_at rules files)) {
      means = λ files input a. MeansSize rules files a;
      needs = record { store = true; reads = Once; input = false; memory = true };
      costs = λ files input a. WithinCosts (record {
        steps = Some 0;
        calls = Some (1 + reads_of (files rules));
        asked = Some (asked_of (files rules));
      });
    }

-- size RULES
abbrev pub size_words : List (List ℕ) → Job
size_words words = taking sizing_at (one_word_of words)
