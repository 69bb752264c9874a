use Rattle.frz_answer.proofs.Lemmas.{failed_first, failed_next, gave_up, took_next, wrote_next}
use Rattle.frz_bound_lines.proofs.write_kept_line.Goals as goal

pub returns-in_err-write_side_name : goal.returns-in_err-write_side_name
returns-in_err-write_side_name g c =
    gave_up c.from_residual.ensures.0
    (failed_first _ (failed_first _ c.in_err-write_side_name.ensures.failed))

pub returns-in_err-write_kept_words : goal.returns-in_err-write_kept_words
returns-in_err-write_kept_words g c =
    gave_up c.from_residual-in_err-write_kept_words.ensures.0
    (failed_first _ (failed_next c.in_ok-write_side_name.ensures.ok
    c.in_err-write_kept_words.ensures.failed))

pub returns : goal.returns
returns g c =
    wrote_next (took_next c.in_ok-write_side_name.ensures.ok c.in_ok-write_kept_words.ensures.ok)
    c.write_piece.ensures
