-- How `report` ends, and that it has one answer.
use Rattle.std.proofs.Common.{◌≡◌, inl, inr, refl, sym, ap, subst, ◌∙◌, ℕ, ◌+◌, ◌*◌, ◌≤◌, List, [], length, Option, Some, Result, Ok, Err, arith}
use Rattle.std.specs.Option.{unwrap_or}
use Rattle.frz_exits.specs.Books.{value_by}
use Rattle.frz_store.specs.Files.{Files}
use Rattle.frz_store.specs.Outside.{Rose}
use Rattle.frz_store.specs.Told.{StoreTold, SourceTold, SinkTold, StoreQuiet, StoreFine}
use Rattle.frz_table.specs.declared.fault.TableFault.{TableFault}
use Rattle.frz_table.specs.declared.kind.FileKind.TheVariants.{Plain}
use Rattle.frz_table.specs.Layout.{pieces_of}
use Rattle.frz_table.specs.Opening.{Contents, contents_of, opened, table_format}
use Rattle.frz_table.specs.Possible.{MayHold, MayOpen, MayRefuse}
use Rattle.frz_table.specs.Tables.{Table, IsFileOf, table_size}
use Rattle.frz_table.proofs.Lemmas.{belongs, fine_after, quiet_after}
use Rattle.frz_rules.specs.Text.{rules_of}
use Rattle.frz_check.specs.Kept.{kept_codes, WithinFile}
use Rattle.frz_check.proofs.Lemmas.{file_opens, within_file}
use Rattle.frz_answer.specs.declared.status.Status.TheVariants.{Success}
use Rattle.frz_answer.specs.declared.fault.Fault.{Fault}
use Rattle.frz_answer.specs.declared.fault.Fault.TheVariants as stops
use Rattle.frz_answer.specs.declared.end.End.TheVariants.{Stopped}
use Rattle.frz_answer.specs.Answers.{SomeAnswer, held}
use Rattle.frz_answer.specs.Ends.{MayMeet, Ran}
use Rattle.frz_answer.specs.Jobs.{WithinCosts}
use Rattle.frz_answer.specs.Lawful.{IsLawful}
use Rattle.frz_answer.specs.Words.{one_word_of}
use Rattle.frz_answer.specs.World.{World, world, Agrees, spent}
use Rattle.frz_answer.proofs.Lemmas.{Begun, SaysAll, one_answer, taking_lawful}
use Rattle.frz_prelude.specs.Refusals.{table_status}
use Rattle.frz_prelude.specs.Stops.{stop_of_table}
use Rattle.frz_prelude.specs.TableCauses.{table_line}
use Rattle.frz_prelude.specs.declared.refused.Refused.TheVariants as refusals
use Rattle.frz_prelude.proofs.Lemmas.{StopsWith, found_where, holding, refusal_said, stops_by}
use Rattle.frz_report.specs.declared.fault.ReportFault.{ReportFault}
use Rattle.frz_report.specs.declared.fault.ReportFault.TheVariants as faults
use Rattle.frz_report.specs.declared.fault.Totals.{Totals}
use Rattle.frz_report.specs.Reports.{StoreCause, classes_text, WritesOfFile, WritesOfTable}
use Rattle.frz_report.specs.Ending.{end_by}
use Rattle.frz_report.proofs.Lemmas.{MayReport, nothing_reported, report_ended, report_said}
use Rattle.frz_commands_ask.proofs.ReportMeans.{report_means}
use Rattle.frz_commands_ask.specs.Reporting.{report_at, report_by, report_of, reporting_at, reporting_costs, report_words}

-- a file that the name may hold, and what was spent on it
pub record FileSeen (name : List ℕ) (old new : StoreTold) (before now : ℕ) (contents : Contents)
    (bytes : List ℕ) : Type 0 where
  pub may : MayHold old.files name (Some bytes)
  pub opens : opened (table_format Plain) (Some bytes) ≡ Ok contents
  pub within : WithinFile (Some bytes) old new before now

within_costs : (held : Option (List ℕ)) (old new : World)
    → WithinFile held old.store new.store old.steps new.steps
    → WithinCosts (reporting_costs held) (spent old) (spent new)
within_costs held old new h = record { steps = h.steps; calls = h.calls; asked = h.asked }

-- there is an answer, and its text is not empty
some_report : (x : Result Contents TableFault) (bytes : List ℕ) (files : Files)
    → (report_by x bytes files).text ≡ [] → ⊥
some_report (Ok contents) bytes files =
    report_said (classes_text contents.rules (value_by contents.rules)) contents.rules (value_by contents.rules) (kept_codes contents bytes)
some_report (Err fault) bytes files = refusal_said (refusals.Table fault)

some_at : (table : List ℕ) (files : Files) → SomeAnswer (λ a. a ≡ report_at table files)
some_at table files = record {
  a = report_at table files;
  answer = refl;
  text = some_report (opened (table_format Plain) (files table)) (unwrap_or (files table) []) files;
}

-- the report is an answer over what was found
given_answer : (name : List ℕ) (contents : Contents) (bytes : List ℕ) (files : Files)
    (input : List ℕ) (old new : World) → Agrees old files input
    → FileSeen name old.store new.store old.steps new.steps contents bytes
    → SaysAll (reporting_at name) Success (report_of contents bytes) files input old new
given_answer name contents bytes files input old new agrees seen =
    let at = holding old.store.files name (Some bytes) seen.may in record {
      found = found_where (reporting_at name) at.files files input old (λ e. cc) at.agrees agrees;
      answer = sym
          (ap (λ (h : Option (List ℕ)). report_by (opened (table_format Plain) h) (unwrap_or h [])
          at.files) at.holds
          ∙ ap (λ (x : Result Contents TableFault). report_by x bytes at.files) seen.opens);
      costs = subst (λ (h : Option (List ℕ)). WithinCosts (reporting_costs h) (spent old)
          (spent new)) (sym at.holds) (within_costs (Some bytes) old new seen.within);
    }

may_report : (name : List ℕ) → MayReport (reporting_at name)
may_report name =
    record { store = refl; memory = refl; speaks = refl; writes = refl; own = refl }

-- a table was opened, and its report was begun
pub record Begins (name : List ℕ) (table : Table) (old mid new : StoreTold)
    (before now : ℕ) : Type 0 where
  pub opens : MayOpen (table_format Plain) old.files name (contents_of table)
  pub kind : table.kind ≡ Plain
  pub named : table.name ≡ name
  pub opening : StoreQuiet old mid
  pub fine : StoreFine old mid
  pub asked : mid.asked ≤ old.asked + (16 + length table.text)
  pub calls : mid.calls ≤ old.calls + 5
  pub loading : StoreQuiet mid new
  pub more_asked : new.asked ≤ mid.asked + 8 * table_size table
  pub more_calls : new.calls ≤ mid.calls + 2 * pieces_of (table_size table)
  pub later : before ≤ now
  pub steps : now ≤ before + table_size table

module _ (name : List ℕ) (table : Table) (old mid new : StoreTold) (input : SourceTold)
    (out_old out_new : SinkTold) (before now : ℕ)
    (begun : Begins name table old mid new before now) where
  quiet_all : StoreQuiet old new
  quiet_all = quiet_after old mid new begun.opening begun.loading

  cause_all : (result : Result Totals ReportFault) → StoreCause result mid new
      → StoreCause result old new
  cause_all (Ok totals) h = fine_after old mid new begun.fine h
  cause_all (Err faults.Store) h = subst (λ (n : ℕ). Rose n new.faults) begun.fine.faults h
  cause_all (Err faults.Output) h = fine_after old mid new begun.fine h
  cause_all (Err faults.NoMemory) h = tt

  within_held_file : (bytes : List ℕ)
      → opened (table_format Plain) (Some bytes) ≡ Ok (contents_of table)
      → WithinFile (Some bytes) old new before now
  within_held_file bytes opens = within_file bytes (contents_of table) old mid new before now opens
      begun.asked begun.calls begun.more_asked begun.more_calls begun.steps

  first_seen : FileSeen name old new before now (contents_of table) begun.opens.bytes
  first_seen = record {
    may = begun.opens.may;
    opens = begun.opens.opens;
    within = within_held_file begun.opens.bytes begun.opens.opens;
  }

  -- the file whose codes were loaded opens as the table
  loaded_seen : (bytes : List ℕ) → MayHold mid.files table.name (Some bytes) → IsFileOf table bytes
      → FileSeen name old new before now (contents_of table) bytes
  loaded_seen bytes may file =
      let read : rules_of table.text ≡ Ok table.rules =
      (belongs (table_format Plain) begun.opens.bytes (contents_of table)
      begun.opens.opens).read in
      let there = file_opens Plain table name bytes old.files mid.files
      begun.opening.unwritten.files begun.kind begun.named read may file in
      record { may = there.0; opens = there.1; within = within_held_file bytes there.1 }

  of_file : (result : Result Totals ReportFault) → StoreCause result mid new
      → WritesOfFile mid.files table result out_old out_new
      → Ran (reporting_at name) (end_by result) (world old input out_old before)
      (world new input out_new now)
  of_file result cause h =
      report_ended (reporting_at name) (may_report name)
      (classes_text table.rules (value_by table.rules)) table.rules (value_by table.rules)
      (kept_codes (contents_of table) h.bytes) old new input out_old out_new before now quiet_all
      begun.later
      (λ files left agrees. given_answer name (contents_of table) h.bytes files left
      (world old input out_old before) (world new input out_old now) agrees
      (loaded_seen h.bytes h.may h.file)) result (cause_all result cause) h.wrote

  unread_ends : (fault : Fault) → MayMeet (reporting_at name) fault (world old input out_old before)
      (world new input out_new now) → out_new ≡ out_old
      → Ran (reporting_at name) (Stopped fault) (world old input out_old before)
      (world new input out_new now)
  unread_ends fault meets same =
      nothing_reported (reporting_at name) (may_report name)
      (classes_text table.rules (value_by table.rules)) table.rules (value_by table.rules)
      (kept_codes (contents_of table) begun.opens.bytes) old new input out_old out_new before now
      quiet_all begun.later
      (λ files left agrees. given_answer name (contents_of table) begun.opens.bytes files left
      (world old input out_old before) (world new input out_old now) agrees first_seen) fault
      meets same

  -- the report of an open table ends the command
  pub report_ends : (result : Result Totals ReportFault) → StoreCause result mid new
      → WritesOfTable mid.files table result out_old out_new
      → Ran (reporting_at name) (end_by result) (world old input out_old before)
      (world new input out_new now)
  report_ends (Ok totals) cause h = of_file (Ok totals) cause h
  report_ends (Err faults.Store) cause h =
      unread_ends stops.Store (refl, cause_all (Err faults.Store) cause) h
  report_ends (Err faults.Output) cause h = of_file (Err faults.Output) cause h
  report_ends (Err faults.NoMemory) cause (inl same) = unread_ends stops.NoMemory refl same
  report_ends (Err faults.NoMemory) cause (inr h) = of_file (Err faults.NoMemory) cause h

module _ (name : List ℕ) (files : Files) (input : List ℕ) (old new : World)
    (agrees : Agrees old files input) (fault : TableFault)
    (h : MayRefuse (table_format Plain) name old.store new.store fault)
    (steps : new.steps ≤ old.steps) where
  -- opening costs no more than the report
  opening_costs : WithinCosts (reporting_costs h.held) (spent old) (spent new)
  opening_costs =
      let asked = h.asked in
      let calls = h.calls in
      record {
        steps = omega (arith, steps);
        calls = omega (arith, calls);
        asked = omega (arith, asked);
      }

  refused_so : opened (table_format Plain) h.held ≡ Err fault
      → SaysAll (reporting_at name) (table_status fault) (table_line fault) files input old new
  refused_so e =
      let at = holding old.store.files name h.held h.may in
      record {
        found = found_where (reporting_at name) at.files files input old (λ x. cc) at.agrees agrees;
        answer = sym
            (ap (λ (x : Option (List ℕ)). report_by (opened (table_format Plain) x) (unwrap_or x [])
            at.files) at.holds
            ∙ ap (λ (x : Result Contents TableFault). report_by x (unwrap_or h.held []) at.files)
            e);
        costs = subst (λ (x : Option (List ℕ)). WithinCosts (reporting_costs x) (spent old)
            (spent new)) (sym at.holds) opening_costs;
      }

  begun_so : Begun (reporting_at name) files input old new
  begun_so =
      let at = holding old.store.files name h.held h.may in
      record {
        found = found_where (reporting_at name) at.files files input old (λ x. cc) at.agrees agrees;
        some = some_at name at.files;
        costs = subst (λ (x : Option (List ℕ)). WithinCosts (reporting_costs x) (spent old)
            (spent new)) (sym at.holds) opening_costs;
      }

  -- the table was not opened
  pub stopped_so : StopsWith (reporting_at name) (stop_of_table fault) files input old new
  stopped_so = stops_by (reporting_at name) files input old new
      (opened (table_format Plain) h.held) fault refused_so begun_so h.refuses

reporting_lawful : (table : List ℕ) → IsLawful (reporting_at table)
reporting_lawful table = record {
  one = λ files input. one_answer (report_at table files);
  means = λ files input a are h. report_means table files a h;
}

pub report_lawful : (words : List (List ℕ)) → IsLawful (report_words words)
report_lawful words = taking_lawful reporting_at (one_word_of words) reporting_lawful
