-- What `solve` finds where it has read its rules file, and how it ends where something stopped it.
use Rattle.std.proofs.Common.{◌≡◌, refl, sym, subst, ℕ, List, [], ◌∷◌, ◌∙◌, Option, Ok, Err}
use Rattle.frz_store.specs.Bytes.{MayBeHeld}
use Rattle.frz_store.specs.Files.{Files}
use Rattle.frz_store.specs.Told.{StoreTold, SourceTold, SinkTold, StoreFine}
use Rattle.frz_answer.specs.declared.fault.Fault.{Fault as Faults}
use Rattle.frz_answer.specs.declared.status.Status.TheVariants.{Success, Rules, Outside, Missing}
use Rattle.frz_answer.specs.Statuses.{OneOf}
use Rattle.frz_answer.specs.Answers.{says}
use Rattle.frz_answer.specs.World.{World, world, Agrees}
use Rattle.frz_answer.proofs.Lemmas.{Found, SaysAll}
use Rattle.frz_board.specs.Boards.{Board}
use Rattle.frz_sets.specs.Views.{RuleLines}
use Rattle.frz_prelude.specs.Refusals.{status_of, refusal_line}
use Rattle.frz_prelude.specs.RulesFiles.{IsRead, rules_held}
use Rattle.frz_bound_lines.specs.BoundLines.{bounds_text}
use Rattle.frz_prelude.specs.Stops.{Answers, HasItsCause, IsMet}
use Rattle.frz_prelude.specs.declared.refused.Refused.{Refused as Refusal}
use Rattle.frz_prelude.specs.declared.stop.Stop.{Stop}
use Rattle.frz_prelude.specs.declared.stop.Stop.TheVariants.{Refused, Fault}
use Rattle.frz_prelude.proofs.Lemmas.{of_rules, StopsWith}
use Rattle.frz_commands_ask.specs.Meaning.{solving_at}
use Rattle.frz_commands_ask.specs.Solving.{AreFound, IsSolvedBy}
use Rattle.frz_commands_ask.proofs.SolveStages.{some_solved_at, is_refused_at, is_read_at, is_inside, is_outside}
use Rattle.frz_commands_ask.specs.declared.bounds.Bounds.{Bounds}

-- the files over which it answers
abbrev pub found_rules : (rules : List ℕ) (p : Board) (m files : Files) (input : List ℕ)
    (old : World)
    → MayBeHeld old.store.files m → Agrees old files input
    → Found (solving_at rules p) files input old
found_rules rules p m files input old there agrees = record {
  files = m;
  input = input;
  agrees = record { store = there; source = agrees.source };
  free = λ e. cc;
  untaken = λ _. refl;
}

-- a rules file is refused with a status of `solve`
own_refusal : (held : Option (List ℕ)) (why : Refusal) → rules_held held ≡ Err why
    → OneOf (status_of why) (Success ∷ Rules ∷ Outside ∷ Missing ∷ [])
own_refusal held why e =
    of_rules (λ (w : Refusal). OneOf (status_of w) (Success ∷ Rules ∷ Outside ∷ Missing ∷ [])) held
    why e refl (λ fault. refl)

pub own_stop : (held : Option (List ℕ)) (stop : Stop)
    → Answers {A = RuleLines} (Err stop) (rules_held held) → (why : Refusal) → stop ≡ Refused why
    → OneOf (status_of why) (Success ∷ Rules ∷ Outside ∷ Missing ∷ [])
own_stop held stop due why is =
    own_refusal held why
    (subst (λ (s : Stop). Answers {A = RuleLines} (Err s) (rules_held held)) is due)

-- where the rules file was not read
pub stopped_at : (rules : List ℕ) (p : Board) (stop : Stop) (files : Files) (input : List ℕ)
    (old new : World)
    → IsRead rules (Err stop) old.store new.store → Agrees old files input
    → StopsWith (solving_at rules p) stop files input old new
stopped_at rules p (Refused why) files input old new read agrees = record {
  found = found_rules rules p read.files files input old read.agrees agrees;
  answer = is_refused_at p read.files rules why read.due;
  costs = record { steps = tt; calls = read.calls; asked = read.asked };
}
stopped_at rules p (Fault fault) files input old new read agrees = record {
  found = found_rules rules p read.files files input old read.agrees agrees;
  some = some_solved_at p rules read.files;
  costs = record { steps = tt; calls = read.calls; asked = read.asked };
}

-- where the rules were read
module _ (rules : List ℕ) (p : Board) (r : RuleLines) (old mid : StoreTold)
    (read : IsRead rules (Ok r) old mid) where
  -- and the position has no bounds by them
  pub own_found : (stop : Stop) → AreFound r p (Err stop) → (why : Refusal) → stop ≡ Refused why
      → OneOf (status_of why) (Success ∷ Rules ∷ Outside ∷ Missing ∷ [])
  own_found (Refused w) found why is =
      let same : w ≡ why = cc in
      subst (λ (x : Refusal). OneOf (status_of x) (Success ∷ Rules ∷ Outside ∷ Missing ∷ []))
      (sym found.1 ∙ same) refl
  own_found (Fault fault) found why is = cc

  pub found_cause : (stop : Stop) → AreFound r p (Err stop) → StoreFine old mid
      → HasItsCause {A = Bounds} (Err stop) old mid
  found_cause (Refused why) found fine = fine
  found_cause (Fault fault) wants fine = subst (λ (f : Faults). IsMet f old mid) (sym wants) tt

  pub not_found : (stop : Stop) (files : Files) (left : List ℕ) (input : SourceTold)
      (out : SinkTold) (before now : ℕ) → AreFound r p (Err stop)
      → Agrees (world old input out before) files left
      → StopsWith (solving_at rules p) stop files left (world old input out before)
      (world mid input out now)
  not_found (Refused why) files left input out before now found agrees = record {
    found = found_rules rules p read.files files left _ read.agrees agrees;
    answer = is_read_at p read.files rules r _ read.due
        (subst (λ (w : Refusal). IsSolvedBy r p read.files
        (says (status_of w) (refusal_line w) read.files)) (sym found.1)
        (is_outside r p read.files found.0));
    costs = record { steps = tt; calls = read.calls; asked = read.asked };
  }
  not_found (Fault fault) files left input out before now wants agrees = record {
    found = found_rules rules p read.files files left _ read.agrees agrees;
    some = some_solved_at p rules read.files;
    costs = record { steps = tt; calls = read.calls; asked = read.asked };
  }

  pub bounds_told : (bounds : Bounds) (files : Files) (left : List ℕ) (input : SourceTold)
      (out : SinkTold) (before now : ℕ) → AreFound r p (Ok bounds)
      → Agrees (world old input out before) files left
      → SaysAll (solving_at rules p) Success (bounds_text bounds.white bounds.black) files left
      (world old input out before) (world mid input out now)
  bounds_told bounds files left input out before now found agrees = record {
    found = found_rules rules p read.files files left _ read.agrees agrees;
    answer = is_read_at p read.files rules r _ read.due
        (is_inside r p read.files _ found.0 (bounds.white, bounds.black, found.1, refl));
    costs = record { steps = tt; calls = read.calls; asked = read.asked };
  }
