use Rattle.frz_answer.proofs.Lemmas.{failed_first, gave_up, wrote_next}
use Rattle.frz_commands_atlas.proofs.first_exits.write_first.Goals as goal

pub returns-in_err-write_numbered : goal.returns-in_err-write_numbered
returns-in_err-write_numbered g c =
    gave_up c.from_residual.ensures.0 (failed_first _ c.in_err-write_numbered.ensures.failed)

pub returns : goal.returns
returns g c = wrote_next c.in_ok-write_numbered.ensures.ok c.write_place.ensures
