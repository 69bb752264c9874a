use Rattle.frz_answer.proofs.Lemmas.{failed_first, gave_up, wrote_next}
use Rattle.frz_commands_premises.proofs.line_texts.write_exit.Goals as goal

pub returns-in_err-write_numbered : goal.returns-in_err-write_numbered
returns-in_err-write_numbered g c =
    let first = rw c.from.ensures at c.in_err-write_numbered.ensures.failed in
    gave_up c.from_residual.ensures.0 (failed_first _ first)

pub returns : goal.returns
returns g c =
    let first = rw c.from.ensures at c.in_ok-write_numbered.ensures.ok in
    wrote_next first c.write_basis.ensures
