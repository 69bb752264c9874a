use Rattle.frz_store.specs.Told.{sink_of}
use Rattle.frz_commands_atlas.proofs.ReportEnds.{moved_report}
use Rattle.frz_commands_atlas.proofs.reporting.report_by.Goals as goal

pub returns-clause-wrote : goal.returns-clause-wrote
returns-clause-wrote g c =
    let given = c.args.table.now in
    moved_report c.rules.result.now given.table.rules (g.B.ExitBook.value_at c.args.book.now)
    given.white.items given.black.items c.deref.result.now c.deref-2.result.now
    c.write_first_report.result (sink_of g.O.Sink c.args.out.now)
    (sink_of g.O.Sink c.write_first_report.new.out) c.rules.ensures.rules c.deref.ensures.value
    c.deref-2.ensures.value c.write_first_report.ensures.wrote
