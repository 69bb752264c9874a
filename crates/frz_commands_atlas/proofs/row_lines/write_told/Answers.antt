use Rattle.frz_answer.proofs.Lemmas.{failed_first, failed_next, gave_up, wrote_next}
use Rattle.frz_commands_atlas.proofs.row_lines.write_told.Goals as goal

pub returns-in_err-write_piece : goal.returns-in_err-write_piece
returns-in_err-write_piece g c =
    gave_up c.from_residual.ensures.0 (failed_first _ c.in_err-write_piece.ensures.failed)

pub returns-in_err-write_numbered : goal.returns-in_err-write_numbered
returns-in_err-write_numbered g c =
    gave_up c.from_residual-in_err-write_numbered.ensures.0
    (failed_next c.in_ok-write_piece.ensures.ok
    (failed_first _ c.in_err-write_numbered.ensures.failed))

pub returns : goal.returns
returns g c =
    wrote_next c.in_ok-write_piece.ensures.ok
    (wrote_next c.in_ok-write_numbered.ensures.ok c.write_bounds.ensures)
