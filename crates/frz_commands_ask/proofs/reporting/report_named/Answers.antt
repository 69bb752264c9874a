use Rattle.std.proofs.Common.{refl, arith}
use Rattle.frz_store.specs.Told.{store_of, sink_of}
use Rattle.frz_answer.specs.World.{world}
use Rattle.frz_prelude.specs.Stops.{stop_of_table}
use Rattle.frz_prelude.proofs.Lemmas.{ended, may_stop, stop_own, table_cause}
use Rattle.frz_answer.proofs.Lemmas.{quiet_store}
use Rattle.frz_table.specs.Tables.{Table}
use Rattle.frz_report.specs.declared.fault.Totals.{Totals}
use Rattle.frz_commands_ask.specs.Reporting.{reporting_at}
use Rattle.frz_commands_ask.proofs.ReportEnds.{report_ends, stopped_so}
use Rattle.frz_commands_ask.proofs.reporting.report_named.Goals as goal

pub returns-in-Ok : goal.returns-in-Ok
returns-in-Ok g c = λ input.
    let e = c.in-Ok.ensures in
    let r = c.report.ensures in
    rw c.end_of.ensures
    (report_ends c.args.name.now c.in-Ok.table (store_of g.S.Store c.args.store.now)
    (store_of g.S.Store c.open_table.new.store) (store_of g.S.Store c.report.new.store)
    input (sink_of g.O.Sink c.args.out.now) (sink_of g.O.Sink c.report.new.out) c.args.steps.now
    c.report.new.steps
    (record {
      opens = e.may_open;
      kind = e.kind;
      named = e.name;
      opening = e.quiet;
      fine = record { faults = e.causes.fine; wants = e.causes.wants_fine };
      asked = e.asked;
      calls = c.open_table.ensures.calls;
      loading = r.quiet;
      more_asked = r.asked;
      more_calls = r.calls;
      later = r.later;
      steps = r.steps;
    })
    c.report.result r.cause r.wrote)

pub returns-in-Err : goal.returns-in-Err
returns-in-Err g c = λ input.
    let e = c.in-Err.ensures in
    let fault = c.in-Err.fault in
    let job = reporting_at c.args.name.now in
    ended job (stop_of_table fault) _ _ (world _ _ _ _) _ (quiet_store _ _ _ _ _ e.quiet)
    (may_stop Totals job (stop_of_table fault) _ _ input _ _ _ refl refl
    (stop_own fault job.statuses refl refl)
    (table_cause Table Totals fault _ _ e.causes))
    (rw c.from.ensures at c.end.ensures)
    (λ files left agrees. stopped_so _ files left _ _ agrees fault e.may_refuse (omega arith))
