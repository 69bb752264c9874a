-- What the answers of `build` mean.
use Rattle.std.specs.Prelude.{◌≡◌, ℕ, ◌+◌, List, [], ◌∷◌, true, false, Some, None, Ok, Err}
use Rattle.std.specs.Str.{bytes_eq}
use Rattle.frz_store.specs.Files.{Files, put}
use Rattle.frz_answer.specs.declared.status.Status.{Status}
use Rattle.frz_answer.specs.declared.status.Status.TheVariants.{Success, Rules, Missing}
use Rattle.frz_answer.specs.Answers.{Answer}
use Rattle.frz_answer.specs.Jobs.{Job, Once, plain, WithinCosts}
use Rattle.frz_answer.specs.Words.{taking, two_words_of, unless}
use Rattle.frz_prelude.specs.Causes.{rules_line}
use Rattle.frz_prelude.specs.Replies.{built_line}
use Rattle.frz_prelude.specs.RulesFiles.{asked_of, reads_of, rules_held}
use Rattle.frz_sets.specs.Views.{RuleLines}
use Rattle.frz_sets.specs.Sets.{size_of}
use Rattle.frz_rules.specs.Text.{rules_of}
use Rattle.frz_rules.specs.declared.fault.RulesFault.{RulesFault}
use Rattle.frz_exits.specs.Books.{value_by}
use Rattle.frz_table.specs.declared.kind.FileKind.TheVariants.{Plain}
use Rattle.frz_table.specs.Layout.{magic_of}
use Rattle.frz_check.specs.OneFile.{IsOneFile}
use Rattle.frz_commands_table.specs.Building.{IsBuiltAt, steps_by, calls_by}

-- the rules file is there and accepted. Afterwards TABLE holds the one file of its text, and no
-- other name changes
pub record MakesTable (rules table : List ℕ) (files : Files) (a : Answer) : Type 0 where
  pub source : List ℕ
  pub there : files rules ≡ Some source
  pub lines : RuleLines
  pub accepted : rules_of source ≡ Ok lines
  pub bytes : List ℕ
  pub one_file : IsOneFile (magic_of Plain) source lines (value_by lines) bytes
  pub written : a.files ≡ put files table bytes
  pub told : a.text ≡ built_line (size_of lines.groups)

-- the rules file is there, the text names the first fault in it, and no file changes
pub record RefusesRules (rules : List ℕ) (files : Files) (a : Answer) : Type 0 where
  pub source : List ℕ
  pub there : files rules ≡ Some source
  pub fault : RulesFault
  pub refused : rules_of source ≡ Err fault
  pub told : a.text ≡ rules_line fault
  pub same : a.files ≡ files

-- the rules file is not there, and no file changes
pub record MissesRules (rules : List ℕ) (files : Files) (a : Answer) : Type 0 where
  pub none : files rules ≡ None
  pub same : a.files ≡ files

-- what an answer says, by its status
abbrev pub MeansByStatus : List ℕ → List ℕ → Files → Answer → Status → Type 0
MeansByStatus rules table files a Success = MakesTable rules table files a
MeansByStatus rules table files a Rules = RefusesRules rules files a
MeansByStatus rules table files a Missing = MissesRules rules files a
MeansByStatus rules table files a status = ⊥

-- what an answer of `build` means: it takes no input, and each status has its cause
pub record MeansBuild (rules table : List ℕ) (files : Files) (a : Answer) : Type 0 where
  pub untaken : a.taken ≡ 0
  pub says : MeansByStatus rules table files a a.status

-- `build` with two names that differ. It costs one `size` and one `read` of the rules file, which
-- is not read where it is missing or too long, and the calls that write the table
abbrev pub building_at : List ℕ → List ℕ → Job
building_at rules table = record (plain (Success ∷ Rules ∷ Missing ∷ [])
    (λ files input a. IsBuiltAt rules table files a)) {
      means = λ files input a. MeansBuild rules table files a;
      needs = record { store = true; reads = Once; input = false; memory = true };
      writes = Some table;
      costs = λ files input a. WithinCosts (record {
        steps = Some (steps_by (rules_held (files rules)));
        calls = Some (1 + reads_of (files rules) + calls_by (rules_held (files rules)));
        asked = Some (asked_of (files rules));
      });
    }

-- build RULES TABLE
abbrev pub build_words : List (List ℕ) → Job
build_words words =
    taking (λ names. unless (bytes_eq names.0 names.1) (building_at names.0 names.1))
    (two_words_of words)
