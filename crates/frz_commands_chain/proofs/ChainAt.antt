-- How `chain` ends where what it reads was refused, and what it finds where it was read.
use Rattle.std.proofs.Common.{◌≡◌, refl, subst, ℕ, List, [], ◌∷◌, Result, Err, arith}
use Rattle.frz_store.specs.Files.{Files}
use Rattle.frz_sets.specs.Views.{RuleLines}
use Rattle.frz_answer.specs.declared.status.Status.TheVariants.{Success, Rules, Table, Wrong, Missing}
use Rattle.frz_answer.specs.Statuses.{OneOf}
use Rattle.frz_answer.specs.World.{World, Agrees}
use Rattle.frz_answer.proofs.Lemmas.{Found, IsStage}
use Rattle.frz_chain.specs.Books.{Back}
use Rattle.frz_prelude.specs.Refusals.{status_of}
use Rattle.frz_prelude.specs.declared.refused.Refused.{Refused as Refusal}
use Rattle.frz_prelude.specs.declared.refused.Refused.TheVariants as refusals
use Rattle.frz_prelude.specs.declared.stop.Stop.{Stop}
use Rattle.frz_prelude.specs.declared.stop.Stop.TheVariants.{Refused, Fault}
use Rattle.frz_prelude.proofs.Lemmas.{StopsWith, found_where, table_own}
use Rattle.frz_commands_chain.specs.Chaining.{chaining_at, chaining_by, refused}
use Rattle.frz_commands_chain.specs.Reading.{AreBothRead, StopsReading}
use Rattle.frz_commands_chain.specs.declared.reading.BothRead.{BothRead}
use Rattle.frz_commands_chain.proofs.ChainOnce.{some_chained}

abbrev own : (why : Refusal) → Type 0
own why = OneOf (status_of why) (Success ∷ Rules ∷ Table ∷ Wrong ∷ Missing ∷ [])

-- what is read is refused with a status of `chain`
own_refusal : (why : Refusal) → StopsReading (Refused why) → own why
own_refusal (refusals.Words words) h = absurd h
own_refusal (refusals.Fen fault) h = absurd h
own_refusal refusals.MissingRules h = refl
own_refusal (refusals.Rules fault) h = refl
own_refusal (refusals.Table fault) h = absurd h
own_refusal (refusals.Back fault) h =
    table_own fault (Success ∷ Rules ∷ Table ∷ Wrong ∷ Missing ∷ []) refl refl
own_refusal (refusals.BackWrong wrong) h = refl
own_refusal refusals.Outside h = absurd h

pub own_stop : (stop : Stop) → StopsReading stop → (why : Refusal) → stop ≡ Refused why → own why
own_stop stop due why is = own_refusal why (subst (λ (s : Stop). StopsReading s) is due)

pub at_stage : (text : List ℕ) (r : RuleLines) (behind : Back) (rules back table : List ℕ)
    → IsStage (chaining_by text r behind table) (chaining_at rules back table)
at_stage text r behind rules back table =
    record {
      statuses = refl;
      store = λ h. h;
      reads = λ e. refl;
      input = λ h. cc;
      memory = λ h. h;
      speaks = λ e. e;
      writes = refl;
    }

-- the files over which it answers
abbrev pub found_both : (rules back table : List ℕ) (stop : Result BothRead Stop) (files : Files)
    (input : List ℕ) (old new : World)
    → (h : AreBothRead rules back stop old.store new.store old.steps new.steps)
    → Agrees old files input → Found (chaining_at rules back table) files input old
found_both rules back table stop files input old new h agrees =
    found_where (chaining_at rules back table) h.files files input old (λ e. cc) h.agrees agrees

pub stopped_at : (rules back table : List ℕ) (stop : Stop) (files : Files) (input : List ℕ)
    (old new : World)
    → AreBothRead rules back (Err stop) old.store new.store old.steps new.steps
    → Agrees old files input
    → StopsWith (chaining_at rules back table) stop files input old new
stopped_at rules back table (Refused why) files input old new h agrees =
    let steps = h.steps in
    let calls = h.calls in
    let asked = h.asked in record {
      found = found_both rules back table (Err (Refused why)) files input old new h agrees;
      answer = refused why h.due refl;
      costs = record {
        steps = omega (arith, steps);
        calls = omega (arith, calls);
        asked = omega (arith, asked);
      };
    }
stopped_at rules back table (Fault fault) files input old new h agrees =
    let steps = h.steps in
    let calls = h.calls in
    let asked = h.asked in record {
      found = found_both rules back table (Err (Fault fault)) files input old new h agrees;
      some = some_chained rules back table h.files;
      costs = record {
        steps = omega (arith, steps);
        calls = omega (arith, calls);
        asked = omega (arith, asked);
      };
    }
