-- How `report` ends, by what was loaded of the tables and written of the report.
use Rattle.std.proofs.Common.{◌≡◌, refl, sym, ap, subst, ◌∙◌, ℕ, ◌+◌, ◌≤◌, List, [], ◌∷◌, Option, Some, Result, Err, Ok, arith, false}
use Rattle.std.specs.Prelude.{map}
use Rattle.std.specs.Option.{unwrap_or}
use Rattle.frz_board.specs.Boards.{Board}
use Rattle.frz_board.specs.declared.man.Colour.{Colour}
use Rattle.frz_board.specs.declared.man.Colour.TheVariants.{White, Black}
use Rattle.frz_graph.specs.EntryCodes.{of_side}
use Rattle.frz_sets.specs.Views.{RuleLines}
use Rattle.frz_sets.specs.declared.exit.Value.{Value}
use Rattle.frz_store.specs.Files.{Files}
use Rattle.frz_store.specs.Told.{StoreTold, SourceTold, SinkTold, StoreQuiet}
use Rattle.frz_table.specs.declared.fault.TableFault.{TableFault}
use Rattle.frz_table.specs.Opening.{Contents, contents_of, opened, own_format}
use Rattle.frz_table.specs.Tables.{table_size}
use Rattle.frz_check.specs.Kept.{kept_codes, opened_size}
use Rattle.frz_atlas.specs.Books.{Back}
use Rattle.frz_atlas.specs.FileOn.{loaded_back}
use Rattle.frz_atlas.specs.Links.{Link, value_over}
use Rattle.frz_atlas.specs.Loaded.{leans_as, link_loaded}
use Rattle.frz_atlas.proofs.Lemmas.{loaded_backs}
use Rattle.frz_atlas.specs.Behind.{TableBytes, backs_in}
use Rattle.frz_atlas.specs.Causes.{HasAtlasCause}
use Rattle.frz_atlas.specs.Costs.{size_held}
use Rattle.frz_atlas.specs.Held.{all_held}
use Rattle.frz_atlas.specs.Loading.{opened_all, opened_own}
use Rattle.frz_atlas.specs.Reading.{IsUnopened, LoadsAtlas, RefusesToRead, WithinReading}
use Rattle.frz_atlas.specs.declared.fault.AtlasFault.{AtlasFault}
use Rattle.frz_atlas.specs.declared.fault.AtlasFault.TheVariants.{Rules, Table, Back as BackAt, Failed, NoMemory}
use Rattle.frz_atlas.specs.declared.fault.BackFault.TheVariants.{Refused, Wrong}
use Rattle.frz_atlas.specs.declared.reading.LoadedAtlas.{LoadedAtlas}
use Rattle.frz_atlas.proofs.Lemmas.{kept_backs}
use Rattle.frz_report.specs.declared.fault.ReportFault.{ReportFault}
use Rattle.frz_report.specs.declared.fault.ReportFault.TheVariants as report_faults
use Rattle.frz_report.specs.declared.fault.Totals.{Totals}
use Rattle.frz_report.specs.Ending.{end_by}
use Rattle.frz_report.proofs.Lemmas.{MayReport, loaded_cause, report_ended}
use Rattle.frz_answer.specs.declared.end.End.{End}
use Rattle.frz_answer.specs.declared.status.Status.TheVariants.{Success}
use Rattle.frz_answer.specs.Ends.{Ran}
use Rattle.frz_answer.specs.Jobs.{WithinCosts}
use Rattle.frz_answer.specs.World.{World, world, Agrees, spent}
use Rattle.frz_answer.proofs.Lemmas.{Begun, SaysAll, fine_store, quiet_both}
use Rattle.frz_prelude.proofs.Lemmas.{found_where, table_own}
use Rattle.frz_atlas_prelude.specs.Ending.{EndsAt}
use Rattle.frz_atlas_prelude.specs.Names.{has_twice}
use Rattle.frz_atlas_prelude.proofs.Lemmas.{AnswersAt, Holds, MayEndAt, apart_names_hold, ended_at}
use Rattle.frz_commands_atlas.specs.FirstExits.{WritesFirsts, firsts_text}
use Rattle.frz_commands_atlas.specs.Reporting.{report_at, report_by, report_costs, report_over, reporting_at, value_behind}
use Rattle.frz_commands_atlas.proofs.ReportMeaning.{some_at}

may_report : (table : List ℕ) (behind : List (List ℕ)) → MayReport (reporting_at table behind)
may_report table behind =
    record { store = refl; memory = refl; speaks = refl; writes = refl; own = refl }

-- by equal rules, values and codes
pub moved_report : (r s : RuleLines) (value : Board → Value)
    (white black white_slice black_slice : List ℕ) (result : Result Totals ReportFault)
    (out after : SinkTold) → r ≡ s → white_slice ≡ white → black_slice ≡ black
    → WritesFirsts r value (λ side. of_side side white_slice black_slice) result out after
    → WritesFirsts s value (λ side. of_side side white black) result out after
moved_report r s value white black white_slice black_slice result out after rules white_is black_is
    h =
    subst (λ (l : List ℕ). WritesFirsts s value (λ side. of_side side white l) result out after)
    black_is
    (subst (λ (l : List ℕ). WritesFirsts s value (λ side. of_side side l black_slice) result out
    after) white_is
    (subst (λ (x : RuleLines). WritesFirsts x value (λ side. of_side side white_slice black_slice)
    result out after) rules h))

-- the answer by what the names hold
module _ (table : List ℕ) (behind : List (List ℕ)) (files : Files) (held : Option (List ℕ))
    (helds : List (Option (List ℕ))) (here : files table ≡ held)
    (others : map files behind ≡ helds) where
  answer_by : (x : Result Contents TableFault) (y : Result (List TableBytes) (ℕ × TableFault))
      → opened own_format held ≡ x → opened_all helds ≡ y
      → report_at table behind files ≡ report_by x (unwrap_or held []) y files
  answer_by x y opens are =
      ap (λ (h : Option (List ℕ)). report_by (opened own_format h) (unwrap_or h [])
      (opened_all (map files behind)) files) here
      ∙ ap (λ (r : Result Contents TableFault). report_by r (unwrap_or held [])
      (opened_all (map files behind)) files) opens
      ∙ ap (λ (l : List (Option (List ℕ))). report_by x (unwrap_or held []) (opened_all l) files)
      others
      ∙ ap (λ (r : Result (List TableBytes) (ℕ × TableFault)). report_by x (unwrap_or held []) r
      files) are

module _ (table : List ℕ) (behind : List (List ℕ)) (apart : has_twice (table ∷ behind) ≡ false)
    (old new : StoreTold) (before now : ℕ) (quiet : StoreQuiet old new) (later : before ≤ now)
    (input : SourceTold) (out : SinkTold) where
  abbrev start : World
  start = world old input out before

  abbrev mid : World
  mid = world new input out now

  reading_spends : (held : Option (List ℕ)) (helds : List (Option (List ℕ)))
      (h : Holds old.files table behind held helds) → WithinReading held helds old new
      → now ≤ before + size_held held
      → WithinCosts (report_costs (h.all.files table) (map h.all.files behind)) (spent start)
      (spent mid)
  reading_spends held helds h within steps =
      subst (λ (x : Option (List ℕ)). WithinCosts (report_costs x (map h.all.files behind))
      (spent start) (spent mid)) (sym h.here)
      (subst (λ (l : List (Option (List ℕ))). WithinCosts (report_costs held l) (spent start)
      (spent mid)) (sym h.others)
      (record { steps = steps; calls = within.calls; asked = within.asked }))

  -- the tables were loaded
  module _ (given : LoadedAtlas) (l : LoadsAtlas table behind old new given)
      (steps : now ≤ before + table_size given.table.table) where
    abbrev contents : Contents
    contents = contents_of given.table.table

    abbrev value : Board → Value
    value = value_behind contents l.bytes l.tables

    abbrev kept : Colour → List ℕ
    kept = kept_codes contents l.bytes

    -- the report is the answer
    report_is_answer : (files : Files) (left : List ℕ) → Agrees start files left
        → SaysAll (reporting_at table behind) Success (report_over contents l.bytes l.tables) files
        left start mid
    report_is_answer files left agrees =
        let h = apart_names_hold old.files table behind apart (Some l.bytes) (all_held l.tables)
        l.may
        l.may_all in
        record {
          found = found_where (reporting_at table behind) h.all.files files left start (λ e. cc)
              h.all.agrees agrees;
          answer = sym (answer_by table behind h.all.files (Some l.bytes) (all_held l.tables) h.here
              h.others (Ok contents) (Ok l.tables) l.opens l.all_open);
          costs = reading_spends (Some l.bytes) (all_held l.tables) h l.within
              (let size = ap opened_size l.opens in omega (arith, size, steps));
        }

    -- what was written by the loaded codes is the report by those in the file
    by_file : (result : Result Totals ReportFault) (after : SinkTold)
        → WritesFirsts contents.rules
        (value_over (leans_as given.table.table.kind) contents.rules (map loaded_back given.backs.items))
        (λ side. of_side side given.table.white.items given.table.black.items) result out after
        → WritesFirsts contents.rules value kept result out after
    by_file result after h =
        subst (λ (c : Colour → List ℕ). WritesFirsts contents.rules value c result out after)
        (λ j side. sides_are_kept side j)
        (subst (λ (x : Link). WritesFirsts contents.rules
        (value_over x.leans contents.rules (backs_in l.tables))
        (λ side. of_side side x.back.white x.back.black) result out after) l.keeps
        (subst (λ (b : List Back). WritesFirsts contents.rules
        (value_over (leans_as given.table.table.kind) contents.rules b)
        (λ side. of_side side given.table.white.items given.table.black.items) result out after)
        (sym (loaded_backs given.backs.items)
        ∙ kept_backs (map link_loaded given.backs.items) l.tables l.all_keep) h))
      where
        sides_are_kept : (side : Colour) → of_side side (kept White) (kept Black) ≡ kept side
        sides_are_kept White = refl
        sides_are_kept Black = refl

    pub report_is_told : (result : Result Totals ReportFault) (after : SinkTold)
        → HasAtlasCause {T = LoadedAtlas} (Ok given) old new
        → (result ≡ Err report_faults.Store → ⊥)
        → WritesFirsts contents.rules
        (value_over (leans_as given.table.table.kind) contents.rules (map loaded_back given.backs.items))
        (λ side. of_side side given.table.white.items given.table.black.items) result out after
        → Ran (reporting_at table behind) (end_by result) start (world new input after now)
    report_is_told result after fine never h =
        report_ended (reporting_at table behind) (may_report table behind)
        (firsts_text contents.rules value) contents.rules value kept
        old new input out after before now quiet later report_is_answer result
        (loaded_cause old new result fine never) (by_file result after h)

  -- something is refused, or could not be read
  module _ (fault : AtlasFault) (r : RefusesToRead table behind old new fault)
      (steps : now ≤ before) where
    abbrev h : Holds old.files table behind r.held r.helds
    h = apart_names_hold old.files table behind apart r.held r.helds r.may r.may_all

    refused_within_costs : WithinCosts (report_costs (h.all.files table) (map h.all.files behind))
        (spent start)
        (spent mid)
    refused_within_costs = reading_spends r.held r.helds h r.within (omega (arith, steps))

    refusal_begun : (files : Files) (left : List ℕ) → Agrees start files left
        → Begun (reporting_at table behind) files left start mid
    refusal_begun files left agrees = record {
      found = found_where (reporting_at table behind) h.all.files files left start (λ e. cc)
          h.all.agrees agrees;
      some = some_at table behind h.all.files;
      costs = refused_within_costs;
    }

    may_end : (f : AtlasFault) → IsUnopened opened_own r.held r.helds f
        → HasAtlasCause {T = LoadedAtlas} (Err f) old new
        → MayEndAt (reporting_at table behind) f start mid
    may_end (Rules f) refused cause = absurd refused
    may_end (Table f) refused cause = (
      table_own f (reporting_at table behind).statuses refl refl,
      fine_store old new input out before now cause,
    )
    may_end (BackAt place (Refused f)) refused cause = (
      table_own f (reporting_at table behind).statuses refl refl,
      fine_store old new input out before now cause,
    )
    may_end (BackAt place (Wrong wrong)) refused cause = absurd refused
    may_end Failed refused cause = (refl, cause)
    may_end NoMemory refused cause = refl

    answers_at : (f : AtlasFault) → IsUnopened opened_own r.held r.helds f → (files : Files)
        (left : List ℕ) → Agrees start files left
        → AnswersAt (reporting_at table behind) f files left start mid
    answers_at (Rules f) refused files left agrees = absurd refused
    answers_at (Table f) refused files left agrees = record {
      found = found_where (reporting_at table behind) h.all.files files left start (λ e. cc)
          h.all.agrees agrees;
      answer = sym (answer_by table behind h.all.files r.held r.helds h.here h.others (Err f)
          (opened_all r.helds) refused refl);
      costs = refused_within_costs;
    }
    answers_at (BackAt place (Refused f)) refused files left agrees = record {
      found = found_where (reporting_at table behind) h.all.files files left start (λ e. cc)
          h.all.agrees agrees;
      answer = sym (answer_by table behind h.all.files r.held r.helds h.here h.others
          (Ok refused.0.0) (Err (place, f)) refused.0.1 refused.1);
      costs = refused_within_costs;
    }
    answers_at (BackAt place (Wrong wrong)) refused files left agrees = absurd refused
    answers_at Failed refused files left agrees = refusal_begun files left agrees
    answers_at NoMemory refused files left agrees = refusal_begun files left agrees

    pub refused_so : (end : End) (after : SinkTold)
        → HasAtlasCause {T = LoadedAtlas} (Err fault) old new → EndsAt fault end out after
        → Ran (reporting_at table behind) end start (world new input after now)
    refused_so end after cause ends =
        ended_at (reporting_at table behind) end start mid after
        (quiet_both old new input out before now quiet later) fault
        (may_end fault r.refuses cause) ends
        (λ files left agrees. answers_at fault r.refuses files left agrees)
