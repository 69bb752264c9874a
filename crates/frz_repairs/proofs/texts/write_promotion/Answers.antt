use Rattle.frz_answer.proofs.Lemmas.{failed_first, failed_next, gave_up, wrote_next}
use Rattle.frz_repairs.proofs.texts.write_promotion.Goals as goal

pub returns-in_err-write_wanted : goal.returns-in_err-write_wanted
returns-in_err-write_wanted g c =
    gave_up c.from_residual.ensures.0 (failed_first _ c.in_err-write_wanted.ensures.failed)

pub returns-in_err-write_new_men : goal.returns-in_err-write_new_men
returns-in_err-write_new_men g c =
    gave_up c.from_residual-in_err-write_new_men.ensures.0
    (failed_next c.in_ok-write_wanted.ensures.ok
    (failed_first _ c.in_err-write_new_men.ensures.failed))

pub returns : goal.returns
returns g c =
    wrote_next c.in_ok-write_wanted.ensures.ok
    (wrote_next c.in_ok-write_new_men.ensures.ok c.write_piece.ensures)
