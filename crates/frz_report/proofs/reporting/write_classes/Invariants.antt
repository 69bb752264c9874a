use Rattle.frz_store.specs.Told.{sink_of}
use Rattle.frz_report.proofs.Walking.{HasWritten}
use Rattle.frz_report.proofs.reporting.write_classes.Given as goal

abbrev pub invariant-loop-class : goal.invariant-loop-class
invariant-loop-class g l = HasWritten l.classes.entries l.class-iterator (sink_of g.O.Sink l.fn.out)
    (sink_of g.O.Sink l.out)
