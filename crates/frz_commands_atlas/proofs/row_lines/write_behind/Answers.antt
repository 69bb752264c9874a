use Rattle.frz_answer.proofs.Lemmas.{failed_first, failed_next, gave_up, wrote_next}
use Rattle.frz_commands_atlas.proofs.row_lines.write_behind.Goals as goal

pub returns-in_err-write_reached : goal.returns-in_err-write_reached
returns-in_err-write_reached g c =
    gave_up c.from_residual.ensures.0 (failed_first _ c.in_err-write_reached.ensures.failed)

pub returns-in_err-write_freedom : goal.returns-in_err-write_freedom
returns-in_err-write_freedom g c =
    gave_up c.from_residual-in_err-write_freedom.ensures.0
    (failed_next c.in_ok-write_reached.ensures.ok
    (failed_first _ c.in_err-write_freedom.ensures.failed))

pub returns : goal.returns
returns g c =
    wrote_next c.in_ok-write_reached.ensures.ok
    (wrote_next c.in_ok-write_freedom.ensures.ok c.write_piece.ensures)
