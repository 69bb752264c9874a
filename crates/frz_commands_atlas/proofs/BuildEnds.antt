-- How `build` ends, by what was read of the rules and found of the tables behind.
use Rattle.std.proofs.Common.{◌≡◌, ◌⊎◌, inl, inr, refl, sym, ap, subst, ◌∙◌, ℕ, ◌+◌, ◌*◌, ◌≤◌, List, [], ◌∷◌, length, take, Option, Some, Result, Err, Ok, arith, false}
use Rattle.std.specs.Prelude.{map, sum_by, OnSome}
use Rattle.std.specs.Option.{option_map}
use Rattle.frz_rules.specs.Text.{rules_of}
use Rattle.frz_rules.specs.declared.fault.RulesFault.{RulesFault}
use Rattle.frz_sets.specs.Sets.{size_of}
use Rattle.frz_sets.specs.Views.{RuleLines}
use Rattle.frz_store.specs.Files.{Files, put}
use Rattle.frz_store.specs.Outside.{Rose}
use Rattle.frz_store.specs.Told.{StoreTold, SourceTold, SinkTold, StoreFine, StoreQuiet}
use Rattle.frz_store.specs.Writes.{Wrote, WrotePart}
use Rattle.frz_store.specs.declared.outside.StoreFault.TheVariants as store_faults
use Rattle.frz_store.proofs.Lemmas.{later_store}
use Rattle.frz_table.proofs.Lemmas.{fine_after, quiet_after}
use Rattle.frz_atlas.specs.Building.{writing_calls}
use Rattle.frz_answer.specs.declared.end.End.{End}
use Rattle.frz_answer.specs.declared.status.Status.TheVariants as statuses
use Rattle.frz_answer.specs.Answers.{says}
use Rattle.frz_answer.specs.Ends.{Ran, Said}
use Rattle.frz_answer.specs.Jobs.{WithinCosts}
use Rattle.frz_answer.specs.Statuses.{OneOf}
use Rattle.frz_answer.specs.World.{World, world, Agrees, spent}
use Rattle.frz_answer.proofs.Lemmas.{Begun, Found, fine_store, not_written, quiet_both, wrote_it}
use Rattle.frz_prelude.specs.Refusals.{status_of}
use Rattle.frz_prelude.specs.Replies.{built_line}
use Rattle.frz_prelude.specs.RulesFiles.{GivesText, IsTextRead}
use Rattle.frz_prelude.specs.declared.refused.Refused.{Refused as Refusal}
use Rattle.frz_prelude.specs.declared.rules_at.RulesText.{RulesText}
use Rattle.frz_prelude.specs.declared.stop.Stop.{Stop}
use Rattle.frz_prelude.specs.declared.stop.Stop.TheVariants as stops
use Rattle.frz_prelude.proofs.Lemmas.{StopsWith, found_where, of_rules, table_own}
use Rattle.frz_atlas.specs.Behind.{IsRefusedAt, TableBytes, backs_in}
use Rattle.frz_atlas.specs.Building.{BuildsAtlas, FailsWriting, IsNotBuilt, RefusesToBuild, WithinBuilding, if_read}
use Rattle.frz_atlas.specs.Building.{size_by as text_size}
use Rattle.frz_atlas.specs.Causes.{HasAtlasCause}
use Rattle.frz_atlas.specs.Costs.{bytes_of, calls_of, steps_of}
use Rattle.frz_atlas.specs.FileOver.{IsFileOver}
use Rattle.frz_atlas.specs.Held.{MayHoldAll, all_held}
use Rattle.frz_atlas.specs.declared.fault.AtlasFault.{AtlasFault}
use Rattle.frz_atlas.specs.declared.fault.AtlasFault.TheVariants.{Rules, Table, Back, Failed, NoMemory}
use Rattle.frz_atlas.specs.declared.fault.BackFault.{BackFault}
use Rattle.frz_atlas.specs.declared.fault.BackFault.TheVariants.{Refused, Wrong}
use Rattle.frz_atlas_prelude.specs.declared.names.TheConstants.{MOST_BACKS}
use Rattle.frz_atlas_prelude.specs.BackLines.{back_status}
use Rattle.frz_atlas_prelude.specs.Ending.{EndsAt, HasSmallPlace}
use Rattle.frz_atlas_prelude.specs.Names.{has_twice}
use Rattle.frz_atlas_prelude.specs.Tables.{AreTablesIn}
use Rattle.frz_atlas_prelude.proofs.Lemmas.{Holds, bytes_to_read, calls_to_read, ended_at, held_rules, holds_rules, judged_exact, place_refused, spent_by_files, without_second}
use Rattle.frz_commands_atlas.specs.Building.{IsBuiltAt, build_costs, building_at, costs_by, made, no_back, no_rules}
use Rattle.frz_commands_atlas.proofs.BuildOnce.{some_build}

-- each end has a status of `build`
pub own_stop : (rules table : List ℕ) (behind : List (List ℕ)) (held : Option (List ℕ))
    (stop : Stop) → GivesText held (Err stop) → (why : Refusal) → stop ≡ stops.Refused why
    → OneOf (status_of why) (building_at rules table behind).statuses
own_stop rules table behind held stop due why is =
    of_rules (λ (w : Refusal). OneOf (status_of w) (building_at rules table behind).statuses) held
    why (subst (λ (s : Stop). GivesText held (Err s)) is due) refl (λ fault. refl)

own_back : (fault : BackFault) (rules table : List ℕ) (behind : List (List ℕ))
    → OneOf (back_status fault) (building_at rules table behind).statuses
own_back (Refused fault) rules table behind =
    table_own fault (building_at rules table behind).statuses refl refl
own_back (Wrong wrong) rules table behind = refl

-- where the rules file was not read
pub stopped_at : (rules table : List ℕ) (behind : List (List ℕ)) (stop : Stop) (files : Files)
    (input : List ℕ) (old new : World) → IsTextRead rules (Err stop) old.store new.store
    → new.steps ≤ old.steps → Agrees old files input
    → StopsWith (building_at rules table behind) stop files input old new
stopped_at rules table behind (stops.Refused why) files input old new read steps agrees = record {
  found = found_where (building_at rules table behind) read.files files input old (λ e. cc)
      read.agrees agrees;
  answer = no_rules (record { why = why; refused = read.due; told = refl });
  costs = (let a = read.calls in let b = read.asked in record {
    steps = omega (arith, steps);
    calls = omega (arith, a);
    asked = omega (arith, b);
  });
}
stopped_at rules table behind (stops.Fault fault) files input old new read steps agrees = record {
  found = found_where (building_at rules table behind) read.files files input old (λ e. cc)
      read.agrees agrees;
  some = some_build rules table behind read.files;
  costs = (let a = read.calls in let b = read.asked in record {
    steps = omega (arith, steps);
    calls = omega (arith, a);
    asked = omega (arith, b);
  });
}

-- what was written after calls that wrote nothing
wrote_after : (name bytes : List ℕ) (old mid new : StoreTold) → StoreQuiet old mid
    → Wrote name bytes mid new → Wrote name bytes old new
wrote_after name bytes old mid new quiet h = record {
  files = h.files ∙ ap (λ (o : Option Files). option_map (λ m. put m name bytes) o)
      quiet.unwritten.files;
  last = subst (λ (o : Option Files). OnSome o (new.last ≡ Some name)) quiet.unwritten.files h.last;
  later = later_store old mid new quiet.later h.later;
}

part_after : (name whole : List ℕ) (old mid new : StoreTold) → StoreQuiet old mid
    → WrotePart name whole mid new → WrotePart name whole old new
part_after name whole old mid new quiet h = record {
  files = subst (λ (o : Option Files). (new.files ≡ o)
      ⊎ ((k : ℕ) × (new.files ≡ option_map (λ m. put m name (take k whole)) o)))
      quiet.unwritten.files h.files;
  later = later_store old mid new quiet.later h.later;
}

module _ (rules table : List ℕ) (behind : List (List ℕ))
    (apart : has_twice (rules ∷ table ∷ behind) ≡ false) (read : RulesText)
    (old mid new : StoreTold) (before now : ℕ) (text_read : IsTextRead rules (Ok read) old mid)
    (quiet : StoreQuiet old mid) (fine : StoreFine old mid) (later : before ≤ now) where
  -- files that hold the rules, and what the names of the tables may hold
  there_are : (helds : List (Option (List ℕ))) → MayHoldAll mid.files behind helds
      → Holds old.files rules behind (Some read.text.items) helds
  there_are helds may =
      holds_rules rules read old mid text_read behind (without_second rules table behind apart)
      quiet helds may

  module _ (input : SourceTold) (out : SinkTold) where
    abbrev start : World
    start = world old input out before

    abbrev done : World
    done = world new input out now

    spent_within_costs : (helds : List (Option (List ℕ)))
        (h : Holds old.files rules behind (Some read.text.items) helds)
        → WithinBuilding read.text.items helds mid new before now
        → WithinCosts (build_costs (h.all.files rules) (map h.all.files behind)) (spent start)
        (spent done)
    spent_within_costs helds h within =
        let steps = subst (λ (x : Result RuleLines RulesFault). now ≤ before + if_read x
        (sum_by steps_of helds + 4 * text_size x)) text_read.due.1 within.steps in
        let asked = subst (λ (x : Result RuleLines RulesFault). new.asked ≤ mid.asked + if_read x
        (sum_by bytes_of helds)) text_read.due.1 within.asked in
        let calls = subst (λ (x : Result RuleLines RulesFault). new.calls ≤ mid.calls + if_read x
        (sum_by calls_of helds + writing_calls (text_size x))) text_read.due.1 within.calls in
        let first_asked = bytes_to_read rules read old mid text_read in
        let first_calls = calls_to_read rules read old mid text_read in
        spent_by_files costs_by (h.all.files rules) read.text.items read.rules
        (map h.all.files behind) helds h.here text_read.due.1 h.others (spent start) (spent done)
        (record {
          steps = steps;
          calls = omega (arith, calls, first_calls);
          asked = omega (arith, asked, first_asked);
        })

    abbrev found : (helds : List (Option (List ℕ)))
        (h : Holds old.files rules behind (Some read.text.items) helds) (files : Files) (left : List ℕ)
        → Agrees start files left → Found (building_at rules table behind) files left start
    found helds h files left agrees =
        found_where (building_at rules table behind) h.all.files files left start (λ e. cc)
        h.all.agrees agrees

    -- the table is made
    is_made : (helds : List (Option (List ℕ)))
        (h : Holds old.files rules behind (Some read.text.items) helds) (tables : List TableBytes)
        (bytes : List ℕ) (r : RuleLines) → rules_of read.text.items ≡ Ok r → helds ≡ all_held tables
        → AreTablesIn helds tables → IsFileOver read.text.items r (backs_in tables) bytes
        → IsBuiltAt rules table behind h.all.files
        (says statuses.Success (built_line (size_of r.groups)) (put h.all.files table bytes))
    is_made helds h tables bytes r reads there exact one = made (record {
      text = read.text.items;
      there = h.here;
      lines = r;
      accepted = reads;
      tables = tables;
      behind_it = subst (λ (l : List (Option (List ℕ))). AreTablesIn l tables) (sym h.others) exact;
      bytes = bytes;
      one_file = one;
      told = refl;
    })

    pub table_is_made : (size : ℕ) (end : End) (after : SinkTold)
        → BuildsAtlas read.text.items behind table mid new before now size → new.room ≡ 0
        → Said statuses.Success (built_line size) end out after
        → Ran (building_at rules table behind) end start (world new input after now)
    table_is_made size end after b full told =
        wrote_it (building_at rules table behind) table b.bytes start new now later refl refl
        (built_line size) end after refl (wrote_after table b.bytes old mid new quiet b.written)
        (fine_after old mid new fine b.fine) full told
        (λ files left agrees.
        let h = there_are (all_held b.tables) b.may_all in
        let whole = is_made (all_held b.tables) h b.tables b.bytes b.rules b.accepted refl
        (record { there = refl; exact = judged_exact [] b.tables b.exact }) b.one_file in
        record {
          found = found (all_held b.tables) h files left agrees;
          answer = subst (λ (n : ℕ). IsBuiltAt rules table behind h.all.files
              (says statuses.Success (built_line n) (put h.all.files table b.bytes))) (sym b.sized)
              whole;
          costs = (let c = spent_within_costs (all_held b.tables) h b.within in
              record { steps = c.steps; calls = c.calls; asked = c.asked });
        })

    module _ (end : End) (after : SinkTold) (fault : AtlasFault)
        (r : RefusesToBuild read.text.items behind table mid new before now fault) where
      abbrev h : Holds old.files rules behind (Some read.text.items) r.helds
      h = there_are r.helds r.may_all

      refusal_begun : (files : Files) (left : List ℕ) → Agrees start files left
          → Begun (building_at rules table behind) files left start done
      refusal_begun files left agrees = record {
        found = found r.helds h files left agrees;
        some = some_build rules table behind h.all.files;
        costs = spent_within_costs r.helds h r.within;
      }

      rose_all : Rose mid.faults new.faults → Rose old.faults new.faults
      rose_all rose = subst (λ (n : ℕ). Rose n new.faults) fine.faults rose

      quiet_from_start : StoreQuiet mid new → StoreQuiet old new
      quiet_from_start more = quiet_after old mid new quiet more

      -- the store failed within the bytes
      written_in_part : FailsWriting read.text.items table r.helds mid new
          → Rose mid.faults new.faults
          → EndsAt Failed end out after
          → Ran (building_at rules table behind) end start (world new input after now)
      written_in_part f rose ends =
          subst (λ (o : SinkTold). Ran (building_at rules table behind) end start
          (world new input o now)) (sym ends.1)
          (not_written (building_at rules table behind) table f.bytes start new now later refl refl
          ℕ store_faults.Failed end ends.0 refl
          (part_after table f.bytes old mid new quiet f.part, rose_all rose)
          (λ files left agrees. record {
            found = found r.helds h files left agrees;
            some = record {
              a = says statuses.Success (built_line (size_of f.rules.groups))
                  (put h.all.files table f.bytes);
              answer = is_made r.helds h f.tables f.bytes f.rules f.accepted f.there
                  (record { there = f.there; exact = judged_exact [] f.tables f.exact }) f.one_file;
              text = λ e. cc;
            };
            given = refl;
            costs = (let c = spent_within_costs r.helds h r.within in
                record { steps = c.steps; calls = c.calls; asked = c.asked });
          }))

      by_fault : (f : AtlasFault) → IsNotBuilt read.text.items table r.helds mid new f
          → HasAtlasCause {T = ℕ} (Err f) mid new → EndsAt f end out after
          → Ran (building_at rules table behind) end start (world new input after now)
      by_fault (Rules f) refused cause ends =
          let no : ◌≡◌ {A = Result RuleLines RulesFault} (Ok read.rules) (Err f) = sym text_read.due.1
          ∙ refused.0 in cc
      by_fault (Table f) refused cause ends = absurd refused
      by_fault (Back place f) refused cause ends =
          ended_at (building_at rules table behind) end start done after
          (quiet_both old new input out before now (quiet_from_start refused.2) later)
          (Back place f) (
            own_back f rules table behind,
            fine_store old new input out before now (fine_after old mid new fine cause),
          ) ends
          (λ files left agrees. record {
            found = found r.helds h files left agrees;
            answer = no_back (record {
              lines = read.rules;
              accepted = held_rules (h.all.files rules) read.text.items read.rules h.here
                  text_read.due.1;
              place = place;
              fault = f;
              refused = subst (λ (l : List (Option (List ℕ))). IsRefusedAt [] l place f)
                  (sym h.others) refused.1;
              told = refl;
            });
            costs = spent_within_costs r.helds h r.within;
          })
      by_fault Failed (rose, inl early) cause ends =
          ended_at (building_at rules table behind) end start done after
          (quiet_both old new input out before now (quiet_from_start early.1) later) Failed
          (refl, rose_all rose) ends (λ files left agrees. refusal_begun files left agrees)
      by_fault Failed (rose, inr part) cause ends = written_in_part part rose ends
      by_fault NoMemory refused cause ends =
          ended_at (building_at rules table behind) end start done after
          (quiet_both old new input out before now (quiet_from_start refused.1) later) NoMemory
          refl ends (λ files left agrees. refusal_begun files left agrees)

      pub not_made_so : HasAtlasCause {T = ℕ} (Err fault) mid new → EndsAt fault end out after
          → Ran (building_at rules table behind) end start (world new input after now)
      not_made_so cause ends = by_fault fault r.refuses cause ends

-- the place that is told is one of the names behind
pub small_place : (text table : List ℕ) (behind : List (List ℕ)) (old new : StoreTold)
    (before now : ℕ) (fault : AtlasFault) → length behind ≤ MOST_BACKS
    → RefusesToBuild text behind table old new before now fault → HasSmallPlace fault
small_place text table behind old new before now fault few r = by_fault fault r.refuses
  where
    by_fault : (f : AtlasFault) → IsNotBuilt text table r.helds old new f → HasSmallPlace f
    by_fault (Rules f) refused = tt
    by_fault (Table f) refused = tt
    by_fault (Back place f) refused =
        place_refused behind few old.files r.helds r.may_all place f refused.1
    by_fault Failed refused = tt
    by_fault NoMemory refused = tt
