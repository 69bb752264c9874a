use Rattle.frz_store.specs.Told.{store_of, sink_of}
use Rattle.frz_report.proofs.Loading.{loaded_cause, loaded_writes, unloaded_cause, unloaded_writes}
use Rattle.frz_report.proofs.reporting.report.Goals as goal

pub returns-in-Ok-clause-wrote : goal.returns-in-Ok-clause-wrote
returns-in-Ok-clause-wrote g c =
    loaded_writes (g.S.Store.files c.args.store.now) c.args.table.now
    (sink_of g.O.Sink c.args.out.now) (sink_of g.O.Sink c.report_codes.new.out)
    c.report_codes.result
    c.in-Ok.white.items c.in-Ok.black.items c.deref.result.now c.deref-in-Ok.result.now
    c.in-Ok.ensures.may_keep c.deref.ensures.value c.deref-in-Ok.ensures.value
    c.report_codes.ensures.stored c.report_codes.ensures.wrote

pub returns-in-Ok-clause-cause : goal.returns-in-Ok-clause-cause
returns-in-Ok-clause-cause g c =
    loaded_cause (store_of g.S.Store c.args.store.now) (store_of g.S.Store c.load.new.store)
    c.report_codes.result
    (record { faults = c.in-Ok.ensures.causes.fine; wants = c.in-Ok.ensures.causes.wants_fine })
    c.report_codes.ensures.stored

pub returns-in-Err-clause-wrote : goal.returns-in-Err-clause-wrote
returns-in-Err-clause-wrote g c =
    unloaded_writes (g.S.Store.files c.args.store.now) c.args.table.now
    (sink_of g.O.Sink c.args.out.now) c.in-Err.fault c.fault_of.result c.fault_of.ensures
    c.in-Err.ensures.outside

pub returns-in-Err-clause-cause : goal.returns-in-Err-clause-cause
returns-in-Err-clause-cause g c =
    unloaded_cause (store_of g.S.Store c.args.store.now) (store_of g.S.Store c.load.new.store)
    c.in-Err.fault c.fault_of.result c.fault_of.ensures c.in-Err.ensures.outside
    c.in-Err.ensures.causes
