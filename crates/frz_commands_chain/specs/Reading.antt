-- What `chain` reads: the rules file, and then the back table.
use Rattle.std.specs.Prelude.{◌≡◌, ◌≤◌, ◌+◌, ℕ, List, Option, Result, Ok, Err, ⊤}
use Rattle.frz_sets.specs.Views.{RuleLines}
use Rattle.frz_store.specs.Bytes.{MayBeHeld}
use Rattle.frz_store.specs.Files.{Files}
use Rattle.frz_store.specs.Told.{StoreTold}
use Rattle.frz_table.specs.declared.kind.FileKind.TheVariants.{Plain}
use Rattle.frz_table.specs.Opening.{opened, table_format}
use Rattle.frz_chain.specs.Backs.{HasWrong}
use Rattle.frz_chain.specs.Chains.{bytes_of_back, calls_of_back, steps_of_back}
use Rattle.frz_chain.specs.FileOn.{loaded_back}
use Rattle.frz_prelude.specs.RulesFiles.{GivesText, asked_of, reads_of, rules_held}
use Rattle.frz_prelude.specs.declared.refused.Refused.{Refused as Refusal}
use Rattle.frz_prelude.specs.declared.refused.Refused.TheVariants as refusals
use Rattle.frz_prelude.specs.declared.stop.Stop.{Stop}
use Rattle.frz_prelude.specs.declared.stop.Stop.TheVariants.{Refused, Fault}
use Rattle.frz_commands_chain.specs.Backs.{IsBackIn}
use Rattle.frz_commands_chain.specs.declared.reading.BothRead.{BothRead}

-- the name holds a rules text that is accepted
abbrev pub HasRules : Option (List ℕ) → Type 0
HasRules held = (r : RuleLines) × (rules_held held ≡ Ok r)

-- the rules file is refused for this reason; or it is accepted, and the back table is refused for
-- it
abbrev pub IsRefusedBoth : (held back_held : Option (List ℕ)) → Refusal → Type 0
IsRefusedBoth held back_held refusals.MissingRules = rules_held held ≡ Err refusals.MissingRules
IsRefusedBoth held back_held (refusals.Rules fault) = rules_held held ≡ Err (refusals.Rules fault)
IsRefusedBoth held back_held (refusals.Back fault) =
    HasRules held × (opened (table_format Plain) back_held ≡ Err fault)
IsRefusedBoth held back_held (refusals.BackWrong wrong) = HasRules held × HasWrong back_held wrong
IsRefusedBoth held back_held why = ⊥

-- the reasons for which reading stops: a refusal of RULES or of BACK, or a fault
abbrev pub StopsReading : Stop → Type 0
StopsReading (Refused refusals.MissingRules) = ⊤
StopsReading (Refused (refusals.Rules fault)) = ⊤
StopsReading (Refused (refusals.Back fault)) = ⊤
StopsReading (Refused (refusals.BackWrong wrong)) = ⊤
StopsReading (Refused why) = ⊥
StopsReading (Fault fault) = ⊤

-- both were read, or one is refused for this reason; nothing is said where a fault stopped the call
abbrev pub GivesBoth : (held back_held : Option (List ℕ)) → Result BothRead Stop → Type 0
GivesBoth held back_held (Ok both) =
    GivesText held (Ok both.read) × IsBackIn back_held (loaded_back both.back)
GivesBoth held back_held (Err (Refused why)) = IsRefusedBoth held back_held why
GivesBoth held back_held (Err (Fault fault)) = ⊤

-- `count` where the rules are accepted, and else 0
abbrev pub if_accepted : Result RuleLines Refusal → ℕ → ℕ
if_accepted (Ok r) count = count
if_accepted (Err why) count = 0

-- the costs of reading both; where the rules are refused, the back table is not looked at
abbrev pub reading_steps : (held back_held : Option (List ℕ)) → ℕ
reading_steps held back_held = if_accepted (rules_held held) (steps_of_back back_held)

abbrev pub reading_bytes : (held back_held : Option (List ℕ)) → ℕ
reading_bytes held back_held =
    asked_of held + if_accepted (rules_held held) (bytes_of_back back_held)

abbrev pub reading_calls : (held back_held : Option (List ℕ)) → ℕ
reading_calls held back_held =
    1 + reads_of held + if_accepted (rules_held held) (calls_of_back back_held)

-- the result is that of the two names in some files: those that the store tells, if it tells. No
-- more was spent than reading them costs
pub record AreBothRead (rules back : List ℕ) (result : Result BothRead Stop) (old new : StoreTold)
    (steps_before steps_now : ℕ) : Type 0 where
  pub files : Files
  pub agrees : MayBeHeld old.files files
  pub due : GivesBoth (files rules) (files back) result
  pub steps : steps_now ≤ steps_before + reading_steps (files rules) (files back)
  pub asked : new.asked ≤ old.asked + reading_bytes (files rules) (files back)
  pub calls : new.calls ≤ old.calls + reading_calls (files rules) (files back)
