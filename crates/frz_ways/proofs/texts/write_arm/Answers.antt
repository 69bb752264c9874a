use Rattle.frz_answer.proofs.Lemmas.{failed_first, gave_up, wrote_next}
use Rattle.frz_ways.proofs.texts.write_arm.Goals as goal

pub returns-in_err-write_move : goal.returns-in_err-write_move
returns-in_err-write_move g c =
    gave_up c.from_residual.ensures.0 (failed_first _ c.in_err-write_move.ensures.failed)

pub returns : goal.returns
returns g c = wrote_next c.in_ok-write_move.ensures.ok c.write_next.ensures
