use Rattle.frz_answer.proofs.Lemmas.{failed_first, gave_up, wrote_next}
use Rattle.frz_bound_lines.proofs.write_bounds.Goals as goal

pub returns-in_err-write_bound_line : goal.returns-in_err-write_bound_line
returns-in_err-write_bound_line g c =
    gave_up c.from_residual.ensures.0 (failed_first _ c.in_err-write_bound_line.ensures.failed)

pub returns : goal.returns
returns g c = wrote_next c.in_ok-write_bound_line.ensures.ok c.write_bound_line-2.ensures
