use Rattle.frz_answer.proofs.Lemmas.{failed_first, gave_up, wrote_next}
use Rattle.frz_prelude.proofs.table_causes.write_words.Goals as goal

pub returns-in_err-write : goal.returns-in_err-write
returns-in_err-write g c =
    gave_up c.from_residual.ensures.0 (failed_first _ c.in_err-write.ensures.failed)

pub returns : goal.returns
returns g c = wrote_next c.in_ok-write.ensures.ok c.write_piece.ensures
