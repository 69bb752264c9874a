use Rattle.frz_answer.proofs.Lemmas.{failed_first, failed_next, gave_up, wrote_next}
use Rattle.frz_commands_table.proofs.tallies.write_side_line.Goals as goal

pub returns-in_err-write_side_name : goal.returns-in_err-write_side_name
returns-in_err-write_side_name g c =
    gave_up c.from_residual.ensures.0 (failed_first _ c.in_err-write_side_name.ensures.failed)

pub returns-in_err-write_counts : goal.returns-in_err-write_counts
returns-in_err-write_counts g c =
    gave_up c.from_residual-in_err-write_counts.ensures.0
    (failed_next c.in_ok-write_side_name.ensures.ok
    (failed_first _ c.in_err-write_counts.ensures.failed))

pub returns : goal.returns
returns g c =
    wrote_next c.in_ok-write_side_name.ensures.ok (wrote_next c.in_ok-write_counts.ensures.ok
    c.write_piece.ensures)
