use Rattle.frz_answer.proofs.Lemmas.{failed_first, failed_next, gave_up, wrote_next}
use Rattle.frz_commands_table.proofs.tallies.write_sample.Goals as goal

pub returns-in_err-write_head : goal.returns-in_err-write_head
returns-in_err-write_head g c =
    let head = rw (c.number.ensures.number, c.count_code-broken.ensures)
    at c.in_err-write_head.ensures.failed in
    gave_up c.from_residual.ensures.0 (failed_first _ head)

pub returns-in_err-write_side_line : goal.returns-in_err-write_side_line
returns-in_err-write_side_line g c =
    let head = rw (c.number.ensures.number, c.count_code-broken.ensures)
    at c.in_ok-write_head.ensures.ok in
    gave_up c.from_residual-in_err-write_side_line.ensures.0
    (failed_next head (failed_first _ c.in_err-write_side_line.ensures.failed))

pub returns-in_err-write_side_line-2 : goal.returns-in_err-write_side_line-2
returns-in_err-write_side_line-2 g c =
    let head = rw (c.number.ensures.number, c.count_code-broken.ensures)
    at c.in_ok-write_head.ensures.ok in
    gave_up c.from_residual-in_err-write_side_line-2.ensures.0
    (failed_next head (failed_next c.in_ok-write_side_line.ensures.ok
    (failed_first _ c.in_err-write_side_line-2.ensures.failed)))

pub returns : goal.returns
returns g c =
    let head = rw (c.number.ensures.number, c.count_code-broken.ensures)
    at c.in_ok-write_head.ensures.ok in
    wrote_next head (wrote_next c.in_ok-write_side_line.ensures.ok
    (wrote_next c.in_ok-write_side_line-2.ensures.ok c.write_piece.ensures))
