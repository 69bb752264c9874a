use Rattle.std.proofs.Common.{◌≡◌, ◌≤◌, ◌-◌, length}
use Rattle.frz_store.specs.Told.{source_of}
use Rattle.frz_commands_inquiry.specs.declared.input_line.TheConstants.{MOST_LENGTH}
use Rattle.frz_ways.specs.SessionFaults.{TookBytes}
use Rattle.frz_ways.specs.Hearing.{IsOneLine}
use Rattle.frz_commands_inquiry.proofs.input_line.read_line.Given as goal

abbrev pub invariant-bytes : goal.invariant-bytes
invariant-bytes g l = record {
  one : IsOneLine l.line.items;
  took : TookBytes l.line.items (source_of g.I.Source l.initial.input)
      (source_of g.I.Source l.input);
  short : length l.line.items ≤ MOST_LENGTH;
  faults : g.I.Source.faults l.input ≡ g.I.Source.faults l.initial.input;
}

abbrev pub decreases-bytes : goal.decreases-bytes
decreases-bytes g l = MOST_LENGTH - length l.line.items
