use Rattle.frz_store.specs.Told.{sink_of}
use Rattle.frz_commands_premises.proofs.Telling.{HasWritten}
use Rattle.frz_commands_premises.proofs.line_texts.write_lines.Given as goal

abbrev pub invariant-loop-line : goal.invariant-loop-line
invariant-loop-line g l =
    HasWritten l.lines l.line-index (sink_of g.O.Sink l.fn.out) (sink_of g.O.Sink l.out)
