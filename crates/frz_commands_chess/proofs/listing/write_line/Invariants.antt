use Rattle.std.proofs.Common.{◌+◌, ◌≤◌}
use Rattle.frz_store.specs.Told.{sink_of}
use Rattle.frz_commands_chess.specs.Listing.{text_by, steps_by}
use Rattle.frz_commands_chess.proofs.Joining.{HasJoined}
use Rattle.frz_commands_chess.proofs.listing.write_line.Given as goal

abbrev pub invariant-loop-i : goal.invariant-loop-i
invariant-loop-i g l = record {
  joined : HasJoined (text_by l.notation l.p) l.moves l.i (sink_of g.O.Sink l.fn.out)
      (sink_of g.O.Sink l.out);
  later : l.fn.steps ≤ l.steps;
  few : l.steps ≤ l.fn.steps + steps_by l.notation l.i;
}
