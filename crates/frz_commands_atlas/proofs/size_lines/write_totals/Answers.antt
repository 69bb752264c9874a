use Rattle.frz_answer.proofs.Lemmas.{failed_first, failed_next, gave_up, wrote_next}
use Rattle.frz_commands_atlas.proofs.size_lines.write_totals.Goals as goal

pub returns-in_err-write_numbered_line : goal.returns-in_err-write_numbered_line
returns-in_err-write_numbered_line g c =
    gave_up c.from_residual.ensures.0 (failed_first _ c.in_err-write_numbered_line.ensures.failed)

pub returns-in_err-write_numbered_line-2 : goal.returns-in_err-write_numbered_line-2
returns-in_err-write_numbered_line-2 g c =
    gave_up c.from_residual-in_err-write_numbered_line-2.ensures.0
    (failed_next c.in_ok-write_numbered_line.ensures.ok
    (failed_first _ c.in_err-write_numbered_line-2.ensures.failed))

pub returns : goal.returns
returns g c =
    wrote_next c.in_ok-write_numbered_line.ensures.ok
    (wrote_next c.in_ok-write_numbered_line-2.ensures.ok c.write_numbered_line-3.ensures)
