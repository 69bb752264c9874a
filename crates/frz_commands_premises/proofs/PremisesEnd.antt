-- How `premises` ends, by what was read of the rules and found of the tables behind.
use Rattle.std.proofs.Common.{◌≡◌, refl, sym, subst, ℕ, ◌≤◌, ◌∷◌, List, [], All, length, map, Option, Some, Err, Ok, arith, false}
use Rattle.std.specs.Prelude.{flat_map}
use Rattle.std.proofs.lemmas.List.{length-map}
use Rattle.frz_sets.specs.Views.{RuleLines}
use Rattle.frz_store.specs.Files.{Files}
use Rattle.frz_store.specs.Outside.{Rose}
use Rattle.frz_store.specs.Told.{StoreTold, SourceTold, SinkTold, StoreFine, StoreQuiet}
use Rattle.frz_table.proofs.Lemmas.{fine_after, quiet_after}
use Rattle.frz_answer.specs.declared.end.End.{End}
use Rattle.frz_answer.specs.declared.status.Status.TheVariants.{Success}
use Rattle.frz_answer.specs.Ends.{Ran, Said}
use Rattle.frz_answer.specs.Jobs.{Never, WithinCosts}
use Rattle.frz_answer.specs.Statuses.{OneOf}
use Rattle.frz_answer.specs.World.{World, world, Agrees, spent}
use Rattle.frz_answer.proofs.Lemmas.{Begun, Found, fine_store, quiet_both, said}
use Rattle.frz_prelude.specs.Refusals.{status_of}
use Rattle.frz_prelude.specs.RulesFiles.{GivesText, IsTextRead}
use Rattle.frz_prelude.specs.declared.refused.Refused.{Refused as Refusal}
use Rattle.frz_prelude.specs.declared.rules_at.RulesText.{RulesText}
use Rattle.frz_prelude.specs.declared.stop.Stop.{Stop}
use Rattle.frz_prelude.specs.declared.stop.Stop.TheVariants as stops
use Rattle.frz_prelude.proofs.Lemmas.{StopsWith, found_where, of_rules, table_own}
use Rattle.frz_atlas.specs.Behind.{IsRefusedAt}
use Rattle.frz_atlas.specs.Causes.{HasAtlasCause}
use Rattle.frz_atlas.specs.Held.{all_held}
use Rattle.frz_atlas.specs.Opening.{IsOneRefused}
use Rattle.frz_atlas.specs.declared.fault.AtlasFault.{AtlasFault}
use Rattle.frz_atlas.specs.declared.fault.AtlasFault.TheVariants.{Rules, Table, Back, Failed, NoMemory}
use Rattle.frz_atlas.specs.declared.fault.BackFault.{BackFault}
use Rattle.frz_atlas.specs.declared.fault.BackFault.TheVariants.{Refused, Wrong}
use Rattle.frz_atlas_prelude.specs.declared.names.TheConstants.{MOST_BACKS}
use Rattle.frz_atlas_prelude.specs.BackLines.{back_status}
use Rattle.frz_atlas_prelude.specs.Ending.{EndsAt, HasSmallPlace}
use Rattle.frz_atlas_prelude.specs.Names.{has_twice}
use Rattle.frz_atlas_prelude.proofs.Lemmas.{AnswersAt, Holds, MayEndAt, as_many_as_names, bytes_to_read, calls_to_read, ended_at, held_rules, holds_rules, judged_exact, place_refused, spent_by_files}
use Rattle.frz_commands_premises.specs.declared.line.Line.{Line}
use Rattle.frz_commands_premises.specs.Finding.{FindsLines, FindsNone, WithinFinding}
use Rattle.frz_commands_premises.specs.LineTexts.{IsWritable, line_text}
use Rattle.frz_commands_premises.specs.PremiseLines.{text_link_of}
use Rattle.frz_commands_premises.specs.Premises.{costs_by, found, no_back, no_rules, premises_costs}
use Rattle.frz_commands_premises.specs.Premising.{premising_at}
use Rattle.frz_commands_premises.proofs.Once.{some_told}
use Rattle.frz_commands_premises.proofs.Writable.{all_writable}

-- each end has a status of `premises`
pub own_stop : (rules : List ℕ) (behind : List (List ℕ)) (held : Option (List ℕ)) (stop : Stop)
    → GivesText held (Err stop) → (why : Refusal) → stop ≡ stops.Refused why
    → OneOf (status_of why) (premising_at rules behind).statuses
own_stop rules behind held stop due why is =
    of_rules (λ (w : Refusal). OneOf (status_of w) (premising_at rules behind).statuses) held why
    (subst (λ (s : Stop). GivesText held (Err s)) is due) refl (λ fault. refl)

own_back : (fault : BackFault) (rules : List ℕ) (behind : List (List ℕ))
    → OneOf (back_status fault) (premising_at rules behind).statuses
own_back (Refused fault) rules behind =
    table_own fault (premising_at rules behind).statuses refl refl
own_back (Wrong wrong) rules behind = refl

-- where the rules file was not read
pub stopped_at : (rules : List ℕ) (behind : List (List ℕ)) (stop : Stop) (files : Files)
    (input : List ℕ) (old new : World) → IsTextRead rules (Err stop) old.store new.store
    → new.steps ≤ old.steps → Agrees old files input
    → StopsWith (premising_at rules behind) stop files input old new
stopped_at rules behind (stops.Refused why) files input old new read steps agrees = record {
  found = found_where (premising_at rules behind) read.files files input old (λ e. cc)
      read.agrees agrees;
  answer = no_rules (record { why = why; refused = read.due; told = refl });
  costs = (let a = read.calls in let b = read.asked in record {
    steps = omega (arith, steps);
    calls = omega (arith, a);
    asked = omega (arith, b);
  });
}
stopped_at rules behind (stops.Fault fault) files input old new read steps agrees = record {
  found = found_where (premising_at rules behind) read.files files input old (λ e. cc)
      read.agrees agrees;
  some = some_told rules behind read.files;
  costs = (let a = read.calls in let b = read.asked in record {
    steps = omega (arith, steps);
    calls = omega (arith, a);
    asked = omega (arith, b);
  });
}

module _ (rules : List ℕ) (behind : List (List ℕ)) (apart : has_twice (rules ∷ behind) ≡ false)
    (read : RulesText) (old mid new : StoreTold) (before now : ℕ)
    (text_read : IsTextRead rules (Ok read) old mid) (quiet : StoreQuiet old mid)
    (fine : StoreFine old mid) (more : StoreQuiet mid new) (later : before ≤ now) where
  module _ (input : SourceTold) (out : SinkTold) where
    abbrev start : World
    start = world old input out before

    abbrev done : World
    done = world new input out now

    spent_within_costs : (helds : List (Option (List ℕ)))
        (h : Holds old.files rules behind (Some read.text.items) helds)
        → WithinFinding read.rules helds mid new before now
        → WithinCosts (premises_costs (h.all.files rules) (map h.all.files behind)) (spent start)
        (spent done)
    spent_within_costs helds h within =
        let asked = within.asked in
        let calls = within.calls in
        let first_asked = bytes_to_read rules read old mid text_read in
        let first_calls = calls_to_read rules read old mid text_read in
        spent_by_files costs_by (h.all.files rules) read.text.items read.rules
        (map h.all.files behind) helds h.here text_read.due.1 h.others (spent start) (spent done)
        (record {
          steps = within.steps;
          calls = omega (arith, calls, first_calls);
          asked = omega (arith, asked, first_asked);
        })

    reads_once : (premising_at rules behind).needs.reads ≡ Never → ⊥
    reads_once e = cc

    abbrev at_files : (helds : List (Option (List ℕ)))
        (h : Holds old.files rules behind (Some read.text.items) helds) (files : Files)
        (left : List ℕ) → Agrees start files left → Found (premising_at rules behind) files left start
    at_files helds h files left agrees =
        found_where (premising_at rules behind) h.all.files files left start reads_once
        h.all.agrees agrees

    -- the premises are told
    pub premises_are_told : (end : End) (after : SinkTold) (told : List Line)
        → FindsLines read.text.items read.rules behind mid new before now told
        → HasAtlasCause {T = List Line} (Ok told) mid new
        → Said Success (flat_map line_text told) end out after
        → Ran (premising_at rules behind) end start (world new input after now)
    premises_are_told end after told f cause wrote =
        said (premising_at rules behind) _ _ end start done after
        (quiet_both old new input out before now (quiet_after old mid new quiet more) later)
        (fine_store old new input out before now (fine_after old mid new fine cause)) refl
        (subst (λ (l : List Line). Said Success (flat_map line_text l) end out after) f.told wrote)
        (λ files left agrees.
        let h = holds_rules rules read old mid text_read behind apart quiet (all_held f.tables)
        f.may_all in
        record {
          found = at_files (all_held f.tables) h files left agrees;
          answer = found (record {
            text = read.text.items;
            there = h.here;
            lines = read.rules;
            accepted = text_read.due.1;
            tables = f.tables;
            behind_it = record { there = h.others; exact = judged_exact [] f.tables f.exact };
            told = refl;
          });
          costs = spent_within_costs (all_held f.tables) h f.within;
        })

    -- a table is refused, or something could not be read
    module _ (end : End) (after : SinkTold) (fault : AtlasFault)
        (r : FindsNone read.rules behind mid new before now fault) where
      abbrev h : Holds old.files rules behind (Some read.text.items) r.helds
      h = holds_rules rules read old mid text_read behind apart quiet r.helds r.may_all

      refusal_begun : (files : Files) (left : List ℕ) → Agrees start files left
          → Begun (premising_at rules behind) files left start done
      refusal_begun files left agrees = record {
        found = at_files r.helds h files left agrees;
        some = some_told rules behind h.all.files;
        costs = spent_within_costs r.helds h r.within;
      }

      may_end : (f : AtlasFault) → IsOneRefused r.helds f
          → HasAtlasCause {T = List Line} (Err f) mid new
          → MayEndAt (premising_at rules behind) f start done
      may_end (Rules f) refused cause = absurd refused
      may_end (Table f) refused cause = absurd refused
      may_end (Back place f) refused cause = (
        own_back f rules behind,
        fine_store old new input out before now (fine_after old mid new fine cause),
      )
      may_end Failed refused cause =
          (refl, subst (λ (n : ℕ). Rose n new.faults) fine.faults cause)
      may_end NoMemory refused cause = refl

      answers_at : (f : AtlasFault) → IsOneRefused r.helds f → (files : Files) (left : List ℕ)
          → Agrees start files left
          → AnswersAt (premising_at rules behind) f files left start done
      answers_at (Rules f) refused files left agrees = absurd refused
      answers_at (Table f) refused files left agrees = absurd refused
      answers_at (Back place f) refused files left agrees = record {
        found = at_files r.helds h files left agrees;
        answer = no_back (record {
          lines = read.rules;
          accepted = held_rules (h.all.files rules) read.text.items read.rules h.here
              text_read.due.1;
          place = place;
          fault = f;
          refused = subst (λ (l : List (Option (List ℕ))). IsRefusedAt [] l place f)
              (sym h.others) refused;
          told = refl;
        });
        costs = spent_within_costs r.helds h r.within;
      }
      answers_at Failed refused files left agrees = refusal_begun files left agrees
      answers_at NoMemory refused files left agrees = refusal_begun files left agrees

      pub refused_so : HasAtlasCause {T = List Line} (Err fault) mid new → EndsAt fault end out after
          → Ran (premising_at rules behind) end start (world new input after now)
      refused_so cause ends =
          ended_at (premising_at rules behind) end start done after
          (quiet_both old new input out before now (quiet_after old mid new quiet more) later) fault
          (may_end fault r.refuses cause) ends
          (λ files left agrees. answers_at fault r.refuses files left agrees)

-- the place that is told is one of the names behind
pub small_place : (rules : RuleLines) (behind : List (List ℕ)) (old new : StoreTold)
    (before now : ℕ) (fault : AtlasFault) → length behind ≤ MOST_BACKS
    → FindsNone rules behind old new before now fault → HasSmallPlace fault
small_place rules behind old new before now fault few r = by_fault fault r.refuses
  where
    by_fault : (f : AtlasFault) → IsOneRefused r.helds f → HasSmallPlace f
    by_fault (Rules f) refused = tt
    by_fault (Table f) refused = tt
    by_fault (Back place f) refused =
        place_refused behind few old.files r.helds r.may_all place f refused
    by_fault Failed refused = tt
    by_fault NoMemory refused = tt

-- and what the lines tell can be written
pub lines_writable : (text : List ℕ) (rules : RuleLines) (behind : List (List ℕ))
    (old new : StoreTold) (before now : ℕ) (lines : List Line) → length behind ≤ MOST_BACKS
    → FindsLines text rules behind old new before now lines → All IsWritable lines
lines_writable text rules behind old new before now lines few f =
    let held = as_many_as_names old.files behind (all_held f.tables) f.may_all in
    let helds = length-map f.tables (λ t. Some t.bytes) in
    let texts = length-map f.tables text_link_of in
    subst (λ (l : List Line). All IsWritable l) (sym f.told)
    (all_writable text rules (map text_link_of f.tables) (omega (arith, held, helds, texts, few)))
