use Rattle.frz_answer.proofs.Lemmas.{failed_first, failed_next, gave_up, wrote_next}
use Rattle.frz_commands_table.proofs.tallies.write_tally.Goals as goal

pub returns-in_err-write_numbered : goal.returns-in_err-write_numbered
returns-in_err-write_numbered g c =
    gave_up c.from_residual.ensures.0 (failed_first _ c.in_err-write_numbered.ensures.failed)

pub returns-in_err-write_numbered-2 : goal.returns-in_err-write_numbered-2
returns-in_err-write_numbered-2 g c =
    gave_up c.from_residual-in_err-write_numbered-2.ensures.0
    (failed_next c.in_ok-write_numbered.ensures.ok
    (failed_first _ c.in_err-write_numbered-2.ensures.failed))

pub returns-in_err-write_numbered-3 : goal.returns-in_err-write_numbered-3
returns-in_err-write_numbered-3 g c =
    gave_up c.from_residual-in_err-write_numbered-3.ensures.0
    (failed_next c.in_ok-write_numbered.ensures.ok (failed_next c.in_ok-write_numbered-2.ensures.ok
    (failed_first _ c.in_err-write_numbered-3.ensures.failed)))

pub returns : goal.returns
returns g c =
    wrote_next c.in_ok-write_numbered.ensures.ok (wrote_next c.in_ok-write_numbered-2.ensures.ok
    (wrote_next c.in_ok-write_numbered-3.ensures.ok c.write_numbered-4.ensures))
