use Rattle.frz_answer.proofs.Lemmas.{failed_first, failed_next, gave_up, wrote_next}
use Rattle.frz_reasons.proofs.texts.write_denial.Goals as goal

pub returns-in_err-write_move_text : goal.returns-in_err-write_move_text
returns-in_err-write_move_text g c =
    gave_up c.from_residual.ensures.0 (failed_first _ c.in_err-write_move_text.ensures.failed)

pub returns-in_err-write_reply : goal.returns-in_err-write_reply
returns-in_err-write_reply g c =
    gave_up c.from_residual-in_err-write_reply.ensures.0
    (failed_next c.in_ok-write_move_text.ensures.ok
    (failed_first _ c.in_err-write_reply.ensures.failed))

pub returns : goal.returns
returns g c =
    wrote_next c.in_ok-write_move_text.ensures.ok (wrote_next c.in_ok-write_reply.ensures.ok
    c.write_piece.ensures)
