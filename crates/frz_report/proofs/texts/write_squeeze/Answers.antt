use Rattle.frz_answer.proofs.Lemmas.{failed_first, failed_next, gave_up, wrote_next}
use Rattle.frz_report.proofs.texts.write_squeeze.Goals as goal

pub returns-in_err-write_numbered : goal.returns-in_err-write_numbered
returns-in_err-write_numbered g c =
    let first = rw c.from.ensures at c.in_err-write_numbered.ensures.failed in
    gave_up c.from_residual.ensures.0 (failed_first _ first)

pub returns-in_err-write_numbered-2 : goal.returns-in_err-write_numbered-2
returns-in_err-write_numbered-2 g c =
    let first = rw c.from.ensures at c.in_ok-write_numbered.ensures.ok in
    let second = rw c.from-2.ensures at c.in_err-write_numbered-2.ensures.failed in
    gave_up c.from_residual-in_err-write_numbered-2.ensures.0
    (failed_next first (failed_first _ second))

pub returns-in_err-write_piece : goal.returns-in_err-write_piece
returns-in_err-write_piece g c =
    let first = rw c.from.ensures at c.in_ok-write_numbered.ensures.ok in
    let second = rw c.from-2.ensures at c.in_ok-write_numbered-2.ensures.ok in
    gave_up c.from_residual-in_err-write_piece.ensures.0
    (failed_next first (failed_next second (failed_first _ c.in_err-write_piece.ensures.failed)))

pub returns : goal.returns
returns g c =
    let first = rw c.from.ensures at c.in_ok-write_numbered.ensures.ok in
    let second = rw c.from-2.ensures at c.in_ok-write_numbered-2.ensures.ok in
    let line = rw (c.as_bytes.ensures.value, c.as_str.ensures.value, c.write_fen.ensures.text)
    at c.write_line.ensures in
    wrote_next first (wrote_next second (wrote_next c.in_ok-write_piece.ensures.ok line))
