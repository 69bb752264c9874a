-- What `build RULES TABLE BACK ..` is to do: the table file of the rules over the BACKs, or the plain
-- one where there are none, is written under the name TABLE.
use Rattle.std.specs.Prelude.{◌≡◌, ℕ, ◌+◌, ◌*◌, List, [], ◌∷◌, map, sum_by, true, false, Option, Some, Result, Ok}
use Rattle.frz_store.specs.Files.{Files, put}
use Rattle.frz_answer.specs.declared.status.Status.{Status}
use Rattle.frz_answer.specs.declared.status.Status.TheVariants as statuses
use Rattle.frz_answer.specs.Answers.{Answer, says}
use Rattle.frz_answer.specs.Jobs.{Costs, Job, Once, plain, WithinCosts}
use Rattle.frz_answer.specs.Words.{taking, unless}
use Rattle.frz_prelude.specs.Replies.{built_line}
use Rattle.frz_prelude.specs.RulesFiles.{asked_of, if_rules, reads_of, rules_held, size_by}
use Rattle.frz_prelude.specs.declared.refused.Refused.{Refused}
use Rattle.frz_sets.specs.Sets.{size_of}
use Rattle.frz_sets.specs.Views.{RuleLines}
use Rattle.frz_rules.specs.Text.{rules_of}
use Rattle.frz_atlas.specs.Building.{writing_calls}
use Rattle.frz_atlas.specs.Behind.{TableBytes, backs_in}
use Rattle.frz_atlas.specs.Costs.{bytes_of, calls_of, steps_of}
use Rattle.frz_atlas.specs.FileOver.{IsFileOver}
use Rattle.frz_atlas_prelude.specs.Names.{build_names_of, has_twice}
use Rattle.frz_atlas_prelude.specs.RulesRefusals.{Refuses, RefusesBack, RefusesRules}
use Rattle.frz_atlas_prelude.specs.Tables.{AreTablesIn}

-- RULES holds a text that is accepted, and the BACKs hold tables that are exact, each over those
-- before it. Afterwards TABLE holds the one file of the text over them, and every other name what
-- it held
pub record MakesAtlas (rules table : List ℕ) (behind : List (List ℕ)) (files : Files)
    (a : Answer) : Type 0 where
  pub text : List ℕ
  pub there : files rules ≡ Some text
  pub lines : RuleLines
  pub accepted : rules_of text ≡ Ok lines
  pub tables : List TableBytes
  pub behind_it : AreTablesIn (map files behind) tables
  pub bytes : List ℕ
  pub one_file : IsFileOver text lines (backs_in tables) bytes
  pub told : a ≡ says statuses.Success (built_line (size_of lines.groups)) (put files table bytes)

-- RULES or one of the BACKs is refused, the first in this order, or the table is made
pub data IsBuiltAt (rules table : List ℕ) (behind : List (List ℕ)) (files : Files)
    (a : Answer) : Type 0 where
  no_rules : RefusesRules rules files a → IsBuiltAt rules table behind files a
  no_back : RefusesBack rules behind files a → IsBuiltAt rules table behind files a
  made : MakesAtlas rules table behind files a → IsBuiltAt rules table behind files a

-- what an answer says, by its status; a refusal changes no file
abbrev pub MeansByStatus : List ℕ → List ℕ → List (List ℕ) → Files → Answer → Status → Type 0
MeansByStatus rules table behind files a statuses.Success = MakesAtlas rules table behind files a
MeansByStatus rules table behind files a status = Refuses rules behind files a

-- what an answer of `build` means: it takes no input, and each status has its cause
pub record MeansBuild (rules table : List ℕ) (behind : List (List ℕ)) (files : Files)
    (a : Answer) : Type 0 where
  pub untaken : a.taken ≡ 0
  pub says : MeansByStatus rules table behind files a a.status

-- the costs of `build`, by the rules that its file gives: reading the file and, where it is
-- accepted, checking each of the tables behind, four steps a number, and the calls that write the
-- table
abbrev pub costs_by : Result RuleLines Refused → (held : Option (List ℕ)) → List (Option (List ℕ))
    → Costs
costs_by read held behind = record {
  steps = Some (if_rules read (sum_by steps_of behind + 4 * size_by read));
  calls = Some (1 + reads_of held
      + if_rules read (sum_by calls_of behind + writing_calls (size_by read)));
  asked = Some (asked_of held + if_rules read (sum_by bytes_of behind));
}

abbrev pub build_costs : (held : Option (List ℕ)) → List (Option (List ℕ)) → Costs
build_costs held behind = costs_by (rules_held held) held behind

-- `build` with names no two of which are the same
abbrev pub building_at : List ℕ → List ℕ → List (List ℕ) → Job
building_at rules table behind = record (plain
    (statuses.Success ∷ statuses.Rules ∷ statuses.Table ∷ statuses.Wrong ∷ statuses.Missing ∷ [])
    (λ files input a. IsBuiltAt rules table behind files a)) {
      means = λ files input a. MeansBuild rules table behind files a;
      needs = record { store = true; reads = Once; input = false; memory = true };
      writes = Some table;
      costs = λ files input a. WithinCosts (build_costs (files rules) (map files behind));
    }

-- build RULES TABLE BACK ..
abbrev pub build_words : List (List ℕ) → Job
build_words words =
    taking (λ names. unless (has_twice words) (building_at names.0 names.1.0 names.1.1))
    (build_names_of words)
