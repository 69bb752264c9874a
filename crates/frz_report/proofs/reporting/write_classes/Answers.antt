use Rattle.std.proofs.lemmas.Map.Iter.{rest_more}
use Rattle.std.specs.Map.Iter.{deref_pair}
use Rattle.frz_answer.proofs.Lemmas.{gave_up}
use Rattle.frz_report.proofs.Walking.{cut_written, more_written}
use Rattle.frz_report.proofs.reporting.write_classes.Goals as goal

pub loop-class-preserved : goal.loop-class-preserved
loop-class-preserved g c =
    more_written _ _ _ _ _ _ _
    (rest_more deref_pair _ _ _ (c.in-Some.class, c.in-Some.count) c.in-Some.is
    c.next.ensures.steps) c.loop-class.invariant c.in_ok-write_class.ensures.ok

pub returns-in_err-write_class : goal.returns-in_err-write_class
returns-in_err-write_class g c =
    gave_up c.from_residual.ensures.0
    (cut_written _ _ _ _ _ _ _
    (rest_more deref_pair _ _ _ (c.in-Some.class, c.in-Some.count) c.in-Some.is
    c.next.ensures.steps) c.loop-class.invariant c.in_err-write_class.ensures.failed)
