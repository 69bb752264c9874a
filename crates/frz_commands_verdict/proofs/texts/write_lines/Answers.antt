use Rattle.frz_answer.proofs.Lemmas.{failed_first, gave_up, wrote_next}
use Rattle.frz_commands_verdict.proofs.texts.write_lines.Goals as goal

pub returns-in_err-write_beliefs : goal.returns-in_err-write_beliefs
returns-in_err-write_beliefs g c =
    gave_up c.from_residual.ensures.0 (failed_first _ c.in_err-write_beliefs.ensures.failed)

pub returns : goal.returns
returns g c =
    wrote_next c.in_ok-write_beliefs.ensures.ok
    (rw c.count_beliefs.ensures at c.write_one.ensures)
