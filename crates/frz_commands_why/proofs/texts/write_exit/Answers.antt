use Rattle.frz_answer.proofs.Lemmas.{failed_first, failed_next, gave_up, wrote_next}
use Rattle.frz_commands_why.proofs.texts.write_exit.Goals as goal

pub returns-in_err-write_value_line : goal.returns-in_err-write_value_line
returns-in_err-write_value_line g c =
    gave_up c.from_residual.ensures.0 (failed_first _ c.in_err-write_value_line.ensures.failed)

pub returns-in_err-write_position : goal.returns-in_err-write_position
returns-in_err-write_position g c =
    gave_up c.from_residual-in_err-write_position.ensures.0
    (failed_next c.in_ok-write_value_line.ensures.ok
    (failed_first _ c.in_err-write_position.ensures.failed))

pub returns : goal.returns
returns g c =
    wrote_next c.in_ok-write_value_line.ensures.ok (wrote_next c.in_ok-write_position.ensures.ok
    c.write_decider.ensures)
