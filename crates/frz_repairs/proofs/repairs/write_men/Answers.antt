use Rattle.frz_answer.proofs.Lemmas.{failed_first, failed_next, gave_up, wrote_next}
use Rattle.frz_repairs.proofs.repairs.write_men.Goals as goal

pub returns-in_err-write_captured : goal.returns-in_err-write_captured
returns-in_err-write_captured g c =
    gave_up c.from_residual.ensures.0 (failed_first _ c.in_err-write_captured.ensures.failed)

pub returns-in_err-write_new_man : goal.returns-in_err-write_new_man
returns-in_err-write_new_man g c =
    gave_up c.from_residual-in_err-write_new_man.ensures.0
    (failed_next c.in_ok-write_captured.ensures.ok
    (failed_first _ c.in_err-write_new_man.ensures.failed))

pub returns : goal.returns
returns g c =
    wrote_next c.in_ok-write_captured.ensures.ok
    (wrote_next c.in_ok-write_new_man.ensures.ok c.write_table_behind.ensures)
