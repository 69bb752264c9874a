use Rattle.frz_answer.proofs.Lemmas.{gave_up}
use Rattle.frz_commands_premises.proofs.Telling.{all_written, cut_written, more_written, nothing_written}
use Rattle.frz_commands_premises.proofs.line_texts.write_lines.Goals as goal

pub loop-line-init : goal.loop-line-init
loop-line-init g c = nothing_written _ _

pub returns-in_err-write_one : goal.returns-in_err-write_one
returns-in_err-write_one g c =
    gave_up c.from_residual.ensures.0
    (cut_written _ _ _ _ _ _ c.loop-line-test.true c.line-item.is c.loop-line.invariant
    c.in_err-write_one.ensures.failed)

pub loop-line-preserved : goal.loop-line-preserved
loop-line-preserved g c =
    more_written _ _ _ _ _ _ c.loop-line-test.true c.line-item.is c.loop-line.invariant
    c.in_ok-write_one.ensures.ok

pub returns : goal.returns
returns g c = record {
  ok = all_written _ _ _ _ c.loop-line-test.false c.loop-line.invariant;
  failed = tt;
}
