use Rattle.std.proofs.Common.{codes, ◌++◌}
use Rattle.std.specs.Prelude.{decimal}
use Rattle.frz_answer.proofs.Lemmas.{failed_first, failed_next, gave_up, took_next, wrote_next}
use Rattle.frz_bound_lines.specs.BoundLines.{side_name}
use Rattle.frz_prelude.proofs.wrong_lines.write_place.Goals as goal

pub returns-in_err-write_piece : goal.returns-in_err-write_piece
returns-in_err-write_piece g c =
    gave_up c.from_residual.ensures.0
    (failed_first (codes " " ++ decimal c.args.wrong.number)
    (failed_first (side_name c.args.wrong.side) c.in_err-write_piece.ensures.failed))

pub returns-in_err-write_side_name : goal.returns-in_err-write_side_name
returns-in_err-write_side_name g c =
    gave_up c.from_residual-in_err-write_side_name.ensures.0
    (failed_first _ (failed_next c.in_ok-write_piece.ensures.ok
    c.in_err-write_side_name.ensures.failed))

pub returns : goal.returns
returns g c =
    wrote_next (took_next c.in_ok-write_piece.ensures.ok c.in_ok-write_side_name.ensures.ok)
    c.write_numbered.ensures
