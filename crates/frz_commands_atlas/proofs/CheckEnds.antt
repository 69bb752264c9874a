-- How `check` ends, by what was found of the tables.
use Rattle.std.proofs.Common.{◌≡◌, refl, sym, ap, subst, ◌∙◌, ℕ, ◌≤◌, List, [], ◌∷◌, length, Option, Some, Err, Ok, false}
use Rattle.std.specs.Prelude.{map}
use Rattle.frz_sets.specs.Sets.{size_of}
use Rattle.frz_store.specs.Files.{Files}
use Rattle.frz_store.specs.Told.{StoreTold, SourceTold, SinkTold, StoreQuiet}
use Rattle.frz_table.specs.Opening.{opened, own_format}
use Rattle.frz_check.specs.declared.verdict.Verdict.{Verdict}
use Rattle.frz_check.specs.declared.verdict.Verdict.TheVariants as verdicts
use Rattle.frz_answer.specs.declared.end.End.{End}
use Rattle.frz_answer.specs.Answers.{says}
use Rattle.frz_answer.specs.Ends.{Ran, Said}
use Rattle.frz_answer.specs.Jobs.{WithinCosts}
use Rattle.frz_answer.specs.Statuses.{OneOf}
use Rattle.frz_answer.specs.World.{World, world, Agrees, spent}
use Rattle.frz_answer.proofs.Lemmas.{Begun, fine_store, quiet_both, said}
use Rattle.frz_prelude.proofs.Lemmas.{found_where, table_own}
use Rattle.frz_atlas.specs.Behind.{IsRefusedAt}
use Rattle.frz_atlas.specs.Causes.{HasAtlasCause}
use Rattle.frz_atlas.specs.Checking.{ChecksAtlas, IsRefusedAtlas, RefusesAtlas, WithinChecking}
use Rattle.frz_atlas.specs.Held.{all_held}
use Rattle.frz_atlas.specs.declared.checking.Checked.{Checked}
use Rattle.frz_atlas.specs.declared.fault.AtlasFault.{AtlasFault}
use Rattle.frz_atlas.specs.declared.fault.AtlasFault.TheVariants.{Rules, Table, Back, Failed, NoMemory}
use Rattle.frz_atlas.specs.declared.fault.BackFault.{BackFault}
use Rattle.frz_atlas.specs.declared.fault.BackFault.TheVariants.{Refused, Wrong}
use Rattle.frz_atlas_prelude.specs.declared.names.TheConstants.{MOST_BACKS}
use Rattle.frz_atlas_prelude.specs.BackLines.{back_status}
use Rattle.frz_atlas_prelude.specs.Ending.{EndsAt, HasSmallPlace}
use Rattle.frz_atlas_prelude.specs.Names.{has_twice}
use Rattle.frz_atlas_prelude.proofs.Lemmas.{AnswersAt, Holds, MayEndAt, apart_names_hold, ended_at, judged_exact, place_refused}
use Rattle.frz_commands_atlas.specs.Checking.{check_costs, judged, no_back, no_table, verdict_line, verdict_status}
use Rattle.frz_commands_atlas.specs.CheckMeans.{checking_at}
use Rattle.frz_commands_atlas.proofs.CheckOnce.{some_check}

-- each end has a status of `check`
own_verdict : (v : Verdict) (table : List ℕ) (behind : List (List ℕ))
    → OneOf (verdict_status v) (checking_at table behind).statuses
own_verdict verdicts.Exact table behind = refl
own_verdict (verdicts.Wrong wrong) table behind = refl

own_back : (fault : BackFault) (table : List ℕ) (behind : List (List ℕ))
    → OneOf (back_status fault) (checking_at table behind).statuses
own_back (Refused fault) table behind = table_own fault (checking_at table behind).statuses refl refl
own_back (Wrong wrong) table behind = refl

module _ (table : List ℕ) (behind : List (List ℕ)) (apart : has_twice (table ∷ behind) ≡ false)
    (old new : StoreTold) (before now : ℕ) (quiet : StoreQuiet old new) (later : before ≤ now) where
  module _ (input : SourceTold) (out after : SinkTold) (end : End) where
    abbrev start : World
    start = world old input out before

    abbrev mid : World
    mid = world new input out now

    abbrev finish : World
    finish = world new input after now

    spent_within_costs : (held : Option (List ℕ)) (helds : List (Option (List ℕ)))
        (h : Holds old.files table behind held helds)
        → WithinChecking held helds old new before now
        → WithinCosts (check_costs (h.all.files table) (map h.all.files behind)) (spent start)
        (spent mid)
    spent_within_costs held helds h within =
        subst (λ (x : Option (List ℕ)). WithinCosts (check_costs x (map h.all.files behind))
        (spent start) (spent mid)) (sym h.here)
        (subst (λ (l : List (Option (List ℕ))). WithinCosts (check_costs held l) (spent start)
        (spent mid)) (sym h.others)
        (record { steps = within.steps; calls = within.calls; asked = within.asked }))

    -- the verdict is told
    pub verdict_is_told : (checked : Checked) → HasAtlasCause {T = Checked} (Ok checked) old new
        → ChecksAtlas table behind old new before now checked
        → Said (verdict_status checked.verdict)
        (verdict_line checked.size checked.behind.items checked.verdict) end out after
        → Ran (checking_at table behind) end start finish
    verdict_is_told checked fine c told =
        said (checking_at table behind) _ _ end start mid after
        (quiet_both old new input out before now quiet later)
        (fine_store old new input out before now fine)
        (own_verdict checked.verdict table behind) told
        (λ files left agrees.
        let h = apart_names_hold old.files table behind apart (Some c.bytes) (all_held c.tables)
        c.may
        c.may_all in
        record {
          found = found_where (checking_at table behind) h.all.files files left start (λ e. cc)
              h.all.agrees agrees;
          answer = judged checked.verdict
              (record {
                bytes = c.bytes;
                there = h.here;
                contents = c.contents;
                opens = c.opens;
                tables = c.tables;
                behind_it = record { there = h.others; exact = judged_exact [] c.tables c.exact };
                judged = c.told.codes;
              })
              (ap (λ (n : ℕ). says (verdict_status checked.verdict)
              (verdict_line n checked.behind.items checked.verdict) h.all.files) c.size
              ∙ ap (λ (l : List ℕ). says (verdict_status checked.verdict)
              (verdict_line (size_of c.contents.rules.groups) l checked.verdict) h.all.files)
              c.sizes);
          costs = spent_within_costs (Some c.bytes) (all_held c.tables) h c.within;
        })

    module _ (fault : AtlasFault) (r : RefusesAtlas table behind old new before now fault) where
      abbrev h : Holds old.files table behind r.held r.helds
      h = apart_names_hold old.files table behind apart r.held r.helds r.may r.may_all

      refusal_begun : (files : Files) (left : List ℕ) → Agrees start files left
          → Begun (checking_at table behind) files left start mid
      refusal_begun files left agrees = record {
        found = found_where (checking_at table behind) h.all.files files left start (λ e. cc)
            h.all.agrees agrees;
        some = some_check table behind h.all.files;
        costs = spent_within_costs r.held r.helds h r.within;
      }

      may_end : (f : AtlasFault) → IsRefusedAtlas r.held r.helds f
          → HasAtlasCause {T = Checked} (Err f) old new
          → MayEndAt (checking_at table behind) f start mid
      may_end (Rules f) refused cause = absurd refused
      may_end (Table f) refused cause = (
        table_own f (checking_at table behind).statuses refl refl,
        fine_store old new input out before now cause,
      )
      may_end (Back place f) refused cause =
          (own_back f table behind, fine_store old new input out before now cause)
      may_end Failed refused cause = (refl, cause)
      may_end NoMemory refused cause = refl

      answers_at : (f : AtlasFault) → IsRefusedAtlas r.held r.helds f → (files : Files)
          (left : List ℕ) → Agrees start files left
          → AnswersAt (checking_at table behind) f files left start mid
      answers_at (Rules f) refused files left agrees = absurd refused
      answers_at (Table f) refused files left agrees = record {
        found = found_where (checking_at table behind) h.all.files files left start (λ e. cc)
            h.all.agrees agrees;
        answer = no_table (record {
          fault = f;
          refused = ap (opened own_format) h.here ∙ refused;
          told = refl;
        });
        costs = spent_within_costs r.held r.helds h r.within;
      }
      answers_at (Back place f) refused files left agrees = record {
        found = found_where (checking_at table behind) h.all.files files left start (λ e. cc)
            h.all.agrees agrees;
        answer = no_back (record {
          opens = (refused.0.0, ap (opened own_format) h.here ∙ refused.0.1);
          place = place;
          fault = f;
          refused = subst (λ (l : List (Option (List ℕ))). IsRefusedAt [] l place f) (sym h.others)
              refused.1;
          told = refl;
        });
        costs = spent_within_costs r.held r.helds h r.within;
      }
      answers_at Failed refused files left agrees = refusal_begun files left agrees
      answers_at NoMemory refused files left agrees = refusal_begun files left agrees

      -- something is wrong, or could not be read
      pub refused_so : HasAtlasCause {T = Checked} (Err fault) old new → EndsAt fault end out after
          → Ran (checking_at table behind) end start finish
      refused_so cause ends =
          ended_at (checking_at table behind) end start mid after
          (quiet_both old new input out before now quiet later) fault
          (may_end fault r.refuses cause) ends
          (λ files left agrees. answers_at fault r.refuses files left agrees)

-- the place that is told is one of the names behind
pub small_place : (table : List ℕ) (behind : List (List ℕ)) (old new : StoreTold)
    (before now : ℕ) (fault : AtlasFault) → length behind ≤ MOST_BACKS
    → RefusesAtlas table behind old new before now fault → HasSmallPlace fault
small_place table behind old new before now fault few r =
    by_fault fault r.refuses
  where
    by_fault : (f : AtlasFault) → IsRefusedAtlas r.held r.helds f → HasSmallPlace f
    by_fault (Rules f) refused = tt
    by_fault (Table f) refused = tt
    by_fault (Back place f) refused =
        place_refused behind few old.files r.helds r.may_all place f refused.1
    by_fault Failed refused = tt
    by_fault NoMemory refused = tt
