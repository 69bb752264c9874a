use Rattle.frz_answer.proofs.Lemmas.{failed_first, failed_next, gave_up, wrote_next}
use Rattle.frz_commands_atlas.proofs.first_exits.write_place.Goals as goal

pub returns-in_err-write_piece : goal.returns-in_err-write_piece
returns-in_err-write_piece g c =
    gave_up c.from_residual.ensures.0 (failed_first _ c.in_err-write_piece.ensures.failed)

pub returns-in_err-write_piece-2 : goal.returns-in_err-write_piece-2
returns-in_err-write_piece-2 g c =
    let class = rw (c.as_bytes.ensures.value, c.as_str.ensures.value, c.class_of-class.ensures)
    at c.in_err-write_piece-2.ensures.failed in
    gave_up c.from_residual-in_err-write_piece-2.ensures.0
    (failed_next c.in_ok-write_piece.ensures.ok (failed_first _ class))

pub returns-in_err-write_piece-3 : goal.returns-in_err-write_piece-3
returns-in_err-write_piece-3 g c =
    let class = rw (c.as_bytes.ensures.value, c.as_str.ensures.value, c.class_of-class.ensures)
    at c.in_ok-write_piece-2.ensures.ok in
    gave_up c.from_residual-in_err-write_piece-3.ensures.0
    (failed_next c.in_ok-write_piece.ensures.ok
    (failed_next class (failed_first _ c.in_err-write_piece-3.ensures.failed)))

pub returns : goal.returns
returns g c =
    let class = rw (c.as_bytes.ensures.value, c.as_str.ensures.value, c.class_of-class.ensures)
    at c.in_ok-write_piece-2.ensures.ok in
    let line = rw (c.as_bytes-2.ensures.value, c.as_str-2.ensures.value, c.write_fen.ensures.text)
    at c.write_line.ensures in
    wrote_next c.in_ok-write_piece.ensures.ok
    (wrote_next class (wrote_next c.in_ok-write_piece-3.ensures.ok line))
