-- What `build` finds where it has read its rules file, and how it ends where something stopped it.
use Rattle.std.proofs.Common.{◌≡◌, refl, subst, ℕ, ◌≤◌, List, [], ◌∷◌, Option, Err, arith}
use Rattle.frz_store.specs.Bytes.{MayBeHeld}
use Rattle.frz_store.specs.Files.{Files}
use Rattle.frz_answer.specs.declared.status.Status.TheVariants.{Success, Rules, Missing}
use Rattle.frz_answer.specs.Statuses.{OneOf}
use Rattle.frz_answer.specs.World.{World, Agrees}
use Rattle.frz_answer.proofs.Lemmas.{Found}
use Rattle.frz_prelude.specs.Refusals.{status_of}
use Rattle.frz_prelude.specs.RulesFiles.{IsTextRead, GivesText, rules_held}
use Rattle.frz_prelude.specs.declared.refused.Refused.{Refused as Refusal}
use Rattle.frz_prelude.specs.declared.stop.Stop.{Stop}
use Rattle.frz_prelude.specs.declared.stop.Stop.TheVariants.{Refused, Fault}
use Rattle.frz_prelude.proofs.Lemmas.{StopsWith, found_where, of_rules}
use Rattle.frz_commands_table.specs.BuildMeaning.{building_at}
use Rattle.frz_commands_table.proofs.BuildStages.{some_built_at, is_refused_at}

-- the files over which it answers
abbrev pub found_rules : (rules table : List ℕ) (m files : Files) (input : List ℕ) (old : World)
    → MayBeHeld old.store.files m → Agrees old files input
    → Found (building_at rules table) files input old
found_rules rules table m files input old there agrees =
    found_where (building_at rules table) m files input old (λ e. cc) there agrees

-- a rules file is refused with a status of `build`
own_refusal : (held : Option (List ℕ)) (why : Refusal) → rules_held held ≡ Err why
    → OneOf (status_of why) (Success ∷ Rules ∷ Missing ∷ [])
own_refusal held why e = of_rules (λ w. OneOf (status_of w) (Success ∷ Rules ∷ Missing ∷ [])) held
    why e refl (λ fault. refl)

pub own_stop : (held : Option (List ℕ)) (stop : Stop) → GivesText held (Err stop) → (why : Refusal)
    → stop ≡ Refused why
    → OneOf (status_of why) (Success ∷ Rules ∷ Missing ∷ [])
own_stop held stop due why is =
    own_refusal held why (subst (λ (s : Stop). GivesText held (Err s)) is due)

-- where the rules file was not read
pub stopped_at : (rules table : List ℕ) (stop : Stop) (files : Files) (input : List ℕ)
    (old new : World)
    → IsTextRead rules (Err stop) old.store new.store → new.steps ≤ old.steps
    → Agrees old files input
    → StopsWith (building_at rules table) stop files input old new
stopped_at rules table (Refused why) files input old new read steps agrees = record {
  found = found_rules rules table read.files files input old read.agrees agrees;
  answer = is_refused_at table read.files rules why read.due;
  costs = record {
    steps = omega (arith, steps);
    calls = (let a = read.calls in omega (arith, a));
    asked = read.asked;
  };
}
stopped_at rules table (Fault fault) files input old new read steps agrees = record {
  found = found_rules rules table read.files files input old read.agrees agrees;
  some = some_built_at rules table read.files;
  costs = record {
    steps = omega (arith, steps);
    calls = (let a = read.calls in omega (arith, a));
    asked = read.asked;
  };
}
