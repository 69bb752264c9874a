use Rattle.std.proofs.Common.{◌≤◌, length}
use Rattle.frz_commands_inquiry.proofs.BlankEnds.{BlankFrom}
use Rattle.frz_commands_inquiry.proofs.trimming.without_end.Given as goal

abbrev pub invariant-loop-kept : goal.invariant-loop-kept
invariant-loop-kept l = record {
  within : l.kept ≤ length l.line;
  blank : BlankFrom l.line l.kept;
}

abbrev pub decreases-loop-kept : goal.decreases-loop-kept
decreases-loop-kept l = l.kept
