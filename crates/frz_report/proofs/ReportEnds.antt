-- How a job ends whose answer is a report, by how much of the report was written.
use Rattle.std.proofs.Common.{◌≡◌, inl, inr, refl, sym, ap, subst, ◌∙◌, ℕ, ◌≤◌, List, [], ◌++◌, Option, None, Result, Ok, Err, IsTrue, true, false, append-nil, arith}
use Rattle.std.specs.Io.KnownBytes.{append_known}
use Rattle.frz_board.specs.declared.man.Colour.{Colour}
use Rattle.frz_board.specs.Boards.{Board}
use Rattle.frz_sets.specs.declared.exit.Value.{Value}
use Rattle.frz_sets.specs.Views.{RuleLines}
use Rattle.frz_store.specs.Files.{Files}
use Rattle.frz_store.specs.Told.{StoreTold, SourceTold, SinkTold, StoreFine, StoreQuiet}
use Rattle.frz_answer.specs.declared.end.End.{End}
use Rattle.frz_answer.specs.declared.end.End.TheVariants.{Done, SinkFault, Stopped}
use Rattle.frz_answer.specs.declared.fault.Fault.{Fault}
use Rattle.frz_answer.specs.declared.fault.Fault.TheVariants as stops
use Rattle.frz_answer.specs.declared.status.Status.TheVariants.{Success}
use Rattle.frz_answer.specs.Answers.{IsLines, held, says}
use Rattle.frz_answer.specs.Ends.{MayMeet, Ran, Said, WritesOnly}
use Rattle.frz_answer.specs.Jobs.{Job}
use Rattle.frz_answer.specs.Statuses.{OneOf}
use Rattle.frz_answer.specs.Texts.{TookText}
use Rattle.frz_answer.specs.World.{Agrees, World, world}
use Rattle.frz_answer.proofs.Lemmas.{SaysAll, answered_over, drop_none, failed_before, fine_store, quiet_both, said, took_nothing}
use Rattle.frz_report.specs.declared.fault.ReportFault.{ReportFault}
use Rattle.frz_report.specs.declared.fault.ReportFault.TheVariants as faults
use Rattle.frz_report.specs.declared.fault.Totals.{Totals}
use Rattle.frz_report.specs.Ending.{end_by}
use Rattle.frz_report.specs.Reports.{StoreCause, WritesWith, report_with}
use Rattle.frz_report.proofs.Writing.{report_said}

-- a job that calls the store, writes no file, speaks line by line and may succeed
pub record MayReport (job : Job) : Type 0 where
  pub store : IsTrue job.needs.store
  pub memory : IsTrue job.needs.memory
  pub speaks : job.speaks ≡ true
  pub writes : job.writes ≡ None
  pub own : OneOf Success job.statuses

module _ (job : Job) (may : MayReport job) (classes : List ℕ) (rules : RuleLines) (value : Board → Value)
    (kept : Colour → List ℕ) (old new : StoreTold) (input : SourceTold)
    (out_old out_new : SinkTold) (before now : ℕ) (quiet : StoreQuiet old new)
    (later : before ≤ now) where
  abbrev whole : List ℕ
  whole = report_with classes rules value kept

  abbrev start : World
  start = world old input out_old before

  abbrev finish : World
  finish = world new input out_new now

  -- this report is an answer
  abbrev Answers : Type 0
  Answers = (files : Files) (left : List ℕ) → Agrees start files left
      → SaysAll job Success whole files left start (world new input out_old now)

  module _ (answers : Answers) where
    -- the report was written, or the sink failed within it
    report_is_told : (end : End) → StoreFine old new → Said Success whole end out_old out_new
        → Ran job end start finish
    report_is_told end fine says_it =
        said job Success whole end start (world new input out_old now) out_new
        (quiet_both old new input out_old before now quiet later)
        (fine_store old new input out_old before now fine) may.own says_it answers

    -- a fault stopped it behind whole lines
    halted_so : (fault : Fault) (text rest : List ℕ) → MayMeet job fault start finish
        → IsLines text → TookText text out_old out_new → text ++ rest ≡ whole
        → (rest ≡ [] → ⊥) → Ran job (Stopped fault) start finish
    halted_so fault text rest meets lines took begins more =
        let written : out_new.taken ≡ append_known out_old.taken (text ++ []) = took.taken
        ∙ ap (append_known out_old.taken) (sym (append-nil text)) in
        let none_less = took.faults in
        record {
          later = record {
            store = quiet.later;
            input = omega arith;
            out = omega (arith, none_less);
            steps = later;
          };
          may = meets;
          lines = (
            record { lines = text; whole = lines; text = written },
            λ silent. let no : true ≡ false = sym may.speaks ∙ silent in cc,
          );
          only = subst (λ (w : Option (List ℕ)). WritesOnly w old new) (sym may.writes)
              quiet.unwritten;
          unwritten = λ none. quiet.unwritten;
          room = tt;
          answered = λ files left agrees.
              let here = answers files left agrees in
              answered_over here.found (says Success whole here.found.files) here.answer
              (record {
                lines = text;
                rest = rest;
                whole = lines;
                begins = begins;
                more = more;
                text = written;
                others = record {
                  files = λ q. inl (ap (λ (o : Option Files). held o q) quiet.unwritten.files);
                  left = (0, omega arith, drop_none input.left);
                };
              }) here.costs;
        }

    -- by what was written of the report
    pub report_ended : (result : Result Totals ReportFault) → StoreCause result old new
        → WritesWith classes rules value kept result out_old out_new
        → Ran job (end_by result) start finish
    report_ended (Ok totals) fine h =
        let all : h.text ≡ whole = sym (append-nil h.text)
        ∙ ap (λ (l : List ℕ). h.text ++ l) (sym h.finishes.1) ∙ h.begins in
        report_is_told (Done Success) fine
        (record {
          says = inl (refl, subst (λ (l : List ℕ). TookText l out_old out_new) all h.wrote);
        })
    report_ended (Err faults.Store) rose h =
        halted_so stops.Store h.text h.rest (may.store, rose) h.lines h.wrote h.begins h.finishes
    report_ended (Err faults.Output) fine h =
        report_is_told SinkFault fine
        (record {
          says = inr (
            refl,
            failed_before h.text h.rest whole out_old out_new h.wrote h.begins,
          );
        })
    report_ended (Err faults.NoMemory) free h =
        halted_so stops.NoMemory h.text h.rest may.memory h.lines h.wrote h.begins h.finishes

    -- a fault before anything was written
    pub nothing_reported : (fault : Fault) → MayMeet job fault start finish → out_new ≡ out_old
        → Ran job (Stopped fault) start finish
    nothing_reported fault meets same =
        halted_so fault [] whole meets (inl refl)
        (subst (λ (o : SinkTold). TookText [] out_old o) (sym same) (took_nothing out_old)) refl
        (report_said classes rules value kept)
