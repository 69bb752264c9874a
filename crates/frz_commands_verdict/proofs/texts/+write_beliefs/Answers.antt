use Rattle.frz_answer.proofs.Lemmas.{failed_first, gave_up, wrote_next}
use Rattle.frz_commands_verdict.proofs.Lines.{first_belief}
use Rattle.frz_commands_verdict.proofs.texts.+write_beliefs.Goals as goal

pub returns-in_err-write_belief-in-len1-up : goal.returns-in_err-write_belief-in-len1-up
returns-in_err-write_belief-in-len1-up g t c =
    rw (first_belief c.args.own c.args.place c.args.lines.now c.line-item.result
    c.in-len1-up.len_at_least c.line-item.is)
    (gave_up c.from_residual.ensures.0
    (failed_first _ c.in_err-write_belief-in-len1-up.ensures.failed))

pub returns-in_ok-write_belief-in-len1-up : goal.returns-in_ok-write_belief-in-len1-up
returns-in_ok-write_belief-in-len1-up g t c =
    rw (first_belief c.args.own c.args.place c.args.lines.now c.line-item.result
    c.in-len1-up.len_at_least c.line-item.is)
    (wrote_next c.in_ok-write_belief-in-len1-up.ensures.ok
    (rw c.place_after.ensures.next at c.write_beliefs.ensures))
