-- What `build RULES TABLE` answers: the table file of the rules is written under the name TABLE.
use Rattle.std.specs.Prelude.{◌≡◌, ℕ, ◌*◌, List, [], ◌∷◌, true, Some, MatchResult, MatchOption, Result, Ok, Err, codes}
use Rattle.frz_store.specs.Files.{Files, put}
use Rattle.frz_answer.specs.declared.status.Status.TheVariants.{Success, Rules, Missing}
use Rattle.frz_answer.specs.Answers.{Answer, says}
use Rattle.frz_answer.specs.Jobs.{Job, plain, nothing, WithinCosts}
use Rattle.frz_prelude.specs.Causes.{rules_line}
use Rattle.frz_prelude.specs.Replies.{built_line}
use Rattle.frz_prelude.specs.declared.refused.Refused.{Refused}
use Rattle.frz_sets.specs.Views.{RuleLines}
use Rattle.frz_sets.specs.Sets.{size_of}
use Rattle.frz_rules.specs.Text.{rules_of}
use Rattle.frz_exits.specs.Books.{value_by}
use Rattle.frz_table.specs.declared.kind.FileKind.TheVariants.{Plain}
use Rattle.frz_table.specs.Layout.{magic_of}
use Rattle.frz_check.specs.OneFile.{IsOneFile}
use Rattle.frz_build.specs.Building.{writing_calls}

-- the answer for rules that were read: TABLE holds the one file of their text, and every other name
-- holds what it held
abbrev pub IsBuiltBy : List ℕ → RuleLines → List ℕ → Files → Answer → Type 0
IsBuiltBy text r table files a =
    (bytes : List ℕ) × IsOneFile (magic_of Plain) text r (value_by r) bytes
    × (a ≡ says Success (built_line (size_of r.groups)) (put files table bytes))

-- the answer for the text of the rules file: its first fault, or the table of its rules
abbrev pub IsBuiltIn : List ℕ → List ℕ → Files → Answer → Type 0
IsBuiltIn text table files a = MatchResult (rules_of text)
    (λ r. IsBuiltBy text r table files a)
    (λ fault. a ≡ says Rules (rules_line fault) files)

-- the answer for the file named RULES: it is missing, or it has a text
abbrev pub IsBuiltAt : List ℕ → List ℕ → Files → Answer → Type 0
IsBuiltAt rules table files a = MatchOption (files rules)
    (a ≡ says Missing (codes "missing rules\n") files)
    (λ text. IsBuiltIn text table files a)

-- `build` for rules that were read: at most four steps a number, and the calls that write the file
abbrev pub building_by : List ℕ → RuleLines → List ℕ → Job
building_by text r table =
    record (plain (Success ∷ []) (λ files input a. IsBuiltBy text r table files a)) {
      needs = record nothing { store = true; memory = true };
      writes = Some table;
      costs = λ files input a. WithinCosts (record {
        steps = Some (4 * size_of r.groups);
        calls = Some (writing_calls (size_of r.groups));
        asked = Some 0;
      });
    }

-- the steps and the calls that building costs where rules were read, and none where they are
-- refused
abbrev pub steps_by : Result RuleLines Refused → ℕ
steps_by (Ok r) = 4 * size_of r.groups
steps_by (Err why) = 0

abbrev pub calls_by : Result RuleLines Refused → ℕ
calls_by (Ok r) = writing_calls (size_of r.groups)
calls_by (Err why) = 0
