use Rattle.frz_answer.proofs.Lemmas.{failed_first, gave_up, wrote_next}
use Rattle.frz_commands_inquiry.proofs.places.write_side.Goals as goal

pub returns-in_err-write_side_name : goal.returns-in_err-write_side_name
returns-in_err-write_side_name g c =
    gave_up c.from_residual.ensures.0 (failed_first _ c.in_err-write_side_name.ensures.failed)

pub returns : goal.returns
returns g c = wrote_next c.in_ok-write_side_name.ensures.ok c.write_code.ensures
