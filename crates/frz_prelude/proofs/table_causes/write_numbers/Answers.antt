use Rattle.frz_answer.proofs.Lemmas.{failed_first, failed_next, gave_up, took_next, wrote_next}
use Rattle.frz_prelude.proofs.table_causes.write_numbers.Goals as goal

pub returns-in_err-write : goal.returns-in_err-write
returns-in_err-write g c =
    gave_up c.from_residual.ensures.0
    (failed_first _ (failed_first _ c.in_err-write.ensures.failed))

pub returns-in_err-write_numbered : goal.returns-in_err-write_numbered
returns-in_err-write_numbered g c =
    gave_up c.from_residual-in_err-write_numbered.ensures.0
    (failed_first _ (failed_next c.in_ok-write.ensures.ok
    c.in_err-write_numbered.ensures.failed))

pub returns : goal.returns
returns g c =
    wrote_next (took_next c.in_ok-write.ensures.ok c.in_ok-write_numbered.ensures.ok)
    c.write_due.ensures
