-- What a command answers where RULES or one of the BACKs is refused.
use Rattle.std.specs.Prelude.{◌≡◌, ℕ, List, [], map, Ok, Err}
use Rattle.frz_sets.specs.Views.{RuleLines}
use Rattle.frz_store.specs.Files.{Files}
use Rattle.frz_atlas.specs.Behind.{IsRefusedAt}
use Rattle.frz_atlas.specs.declared.fault.BackFault.{BackFault}
use Rattle.frz_answer.specs.Answers.{Answer, says}
use Rattle.frz_prelude.specs.Refusals.{refusal_line, status_of}
use Rattle.frz_prelude.specs.RulesFiles.{rules_held}
use Rattle.frz_prelude.specs.declared.refused.Refused.{Refused}
use Rattle.frz_atlas_prelude.specs.BackLines.{back_line, back_status}

-- the file named RULES holds no accepted rules, and the line says why
pub record RefusesRules (rules : List ℕ) (files : Files) (a : Answer) : Type 0 where
  pub why : Refused
  pub refused : rules_held (files rules) ≡ Err why
  pub told : a ≡ says (status_of why) (refusal_line why) files

-- RULES holds a text that is accepted. The BACK at this place is refused, and all before it are
-- exact; the line counts places from 1
pub record RefusesBack (rules : List ℕ) (behind : List (List ℕ)) (files : Files)
    (a : Answer) : Type 0 where
  pub lines : RuleLines
  pub accepted : rules_held (files rules) ≡ Ok lines
  pub place : ℕ
  pub fault : BackFault
  pub refused : IsRefusedAt [] (map files behind) place fault
  pub told : a ≡ says (back_status fault) (back_line place fault) files

-- the file named RULES is refused, or one of the BACKs
pub data Refuses (rules : List ℕ) (behind : List (List ℕ)) (files : Files) (a : Answer) : Type 0 where
  of_rules : RefusesRules rules files a → Refuses rules behind files a
  of_back : RefusesBack rules behind files a → Refuses rules behind files a
