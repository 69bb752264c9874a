-- What `premises RULES BACK ..` answers: what each exit line of the BACKs and of RULES rests on. No
-- file changes.
use Rattle.std.specs.Prelude.{◌≡◌, ℕ, ◌+◌, ◌*◌, List, map, sum_by, Option, Some, Result, Ok}
use Rattle.frz_sets.specs.Views.{RuleLines}
use Rattle.frz_rules.specs.Text.{rules_of}
use Rattle.frz_store.specs.Files.{Files}
use Rattle.frz_answer.specs.declared.status.Status.TheVariants.{Success}
use Rattle.frz_answer.specs.Answers.{Answer, says}
use Rattle.frz_answer.specs.Jobs.{Costs}
use Rattle.frz_prelude.specs.RulesFiles.{asked_of, if_rules, reads_of, rules_held, size_by}
use Rattle.frz_prelude.specs.declared.refused.Refused.{Refused}
use Rattle.frz_atlas.specs.Behind.{TableBytes}
use Rattle.frz_atlas.specs.Costs.{bytes_of, calls_of, steps_of}
use Rattle.frz_atlas_prelude.specs.RulesRefusals.{RefusesBack, RefusesRules}
use Rattle.frz_atlas_prelude.specs.Tables.{AreTablesIn}
use Rattle.frz_commands_premises.specs.PremiseLines.{premises_text}

-- RULES holds a text that is accepted, and the BACKs hold tables that are exact, each over those
-- before it. The text tells what the exit lines of all of them rest on
pub record FindsPremises (rules : List ℕ) (behind : List (List ℕ)) (files : Files)
    (a : Answer) : Type 0 where
  pub text : List ℕ
  pub there : files rules ≡ Some text
  pub lines : RuleLines
  pub accepted : rules_of text ≡ Ok lines
  pub tables : List TableBytes
  pub behind_it : AreTablesIn (map files behind) tables
  pub told : a ≡ says Success (premises_text text lines tables) files

-- RULES or one of the BACKs is refused, the first in this order, or the premises are told
pub data IsToldAt (rules : List ℕ) (behind : List (List ℕ)) (files : Files)
    (a : Answer) : Type 0 where
  no_rules : RefusesRules rules files a → IsToldAt rules behind files a
  no_back : RefusesBack rules behind files a → IsToldAt rules behind files a
  found : FindsPremises rules behind files a → IsToldAt rules behind files a

-- the costs of `premises`, by the rules that its file gives: reading the file and, where it is
-- accepted, checking each of the tables behind, one more step for each of their numbers, and two
-- steps a number of RULES
abbrev pub costs_by : Result RuleLines Refused → (held : Option (List ℕ)) → List (Option (List ℕ))
    → Costs
costs_by read held behind = record {
  steps = Some (if_rules read (2 * sum_by steps_of behind + 2 * size_by read));
  calls = Some (1 + reads_of held + if_rules read (sum_by calls_of behind));
  asked = Some (asked_of held + if_rules read (sum_by bytes_of behind));
}

abbrev pub premises_costs : (held : Option (List ℕ)) → List (Option (List ℕ)) → Costs
premises_costs held behind = costs_by (rules_held held) held behind
