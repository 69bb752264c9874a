use Rattle.frz_answer.proofs.Lemmas.{failed_first, gave_up, wrote_next}
use Rattle.frz_repairs.proofs.texts.write_standing_end.Goals as goal

pub returns-in_err-write_standing : goal.returns-in_err-write_standing
returns-in_err-write_standing g c =
    gave_up c.from_residual.ensures.0 (failed_first _ c.in_err-write_standing.ensures.failed)

pub returns : goal.returns
returns g c =
    wrote_next c.in_ok-write_standing.ensures.ok c.write_piece.ensures
