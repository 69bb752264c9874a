use Rattle.frz_answer.proofs.Lemmas.{failed_first, failed_next, gave_up, wrote_next}
use Rattle.frz_commands_verdict.proofs.texts.write_told.Goals as goal

pub returns-in_err-write_line : goal.returns-in_err-write_line
returns-in_err-write_line g c =
    let first = rw (c.as_bytes.ensures.value, c.as_str.ensures.value, c.write_fen.ensures.text)
    at c.in_err-write_line.ensures.failed in
    gave_up c.from_residual.ensures.0 (failed_first _ first)

pub returns-in_err-write_verdict : goal.returns-in_err-write_verdict
returns-in_err-write_verdict g c =
    let first = rw (c.as_bytes.ensures.value, c.as_str.ensures.value, c.write_fen.ensures.text)
    at c.in_ok-write_line.ensures.ok in
    gave_up c.from_residual-in_err-write_verdict.ensures.0
    (failed_next first (failed_first _ c.in_err-write_verdict.ensures.failed))

pub returns : goal.returns
returns g c =
    let first = rw (c.as_bytes.ensures.value, c.as_str.ensures.value, c.write_fen.ensures.text)
    at c.in_ok-write_line.ensures.ok in
    wrote_next first (wrote_next c.in_ok-write_verdict.ensures.ok c.write_lines.ensures)
