use Rattle.frz_answer.proofs.Lemmas.{failed_first, failed_next, gave_up, wrote_next}
use Rattle.frz_repairs.proofs.texts.write_new_men.Goals as goal

pub returns-in_err-write_new_man : goal.returns-in_err-write_new_man
returns-in_err-write_new_man g c =
    gave_up c.from_residual.ensures.0 (failed_first _ c.in_err-write_new_man.ensures.failed)

pub returns-in_err-write_new_man-2 : goal.returns-in_err-write_new_man-2
returns-in_err-write_new_man-2 g c =
    gave_up c.from_residual-in_err-write_new_man-2.ensures.0
    (failed_next c.in_ok-write_new_man.ensures.ok
    (failed_first _ c.in_err-write_new_man-2.ensures.failed))

pub returns-in_err-write_new_man-3 : goal.returns-in_err-write_new_man-3
returns-in_err-write_new_man-3 g c =
    gave_up c.from_residual-in_err-write_new_man-3.ensures.0
    (failed_next c.in_ok-write_new_man.ensures.ok (failed_next c.in_ok-write_new_man-2.ensures.ok
    (failed_first _ c.in_err-write_new_man-3.ensures.failed)))

pub returns : goal.returns
returns g c =
    wrote_next c.in_ok-write_new_man.ensures.ok (wrote_next c.in_ok-write_new_man-2.ensures.ok
    (wrote_next c.in_ok-write_new_man-3.ensures.ok c.write_new_man-4.ensures))
