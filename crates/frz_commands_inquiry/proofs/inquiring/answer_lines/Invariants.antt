use Rattle.std.proofs.Common.{◌≡◌, map}
use Rattle.frz_store.specs.Told.{source_of, sink_of}
use Rattle.frz_atlas.specs.FileOn.{loaded_back}
use Rattle.frz_atlas.specs.Loaded.{link_loaded}
use Rattle.frz_commands_inquiry.specs.Places.{reply_to}
use Rattle.frz_commands_inquiry.proofs.AnsweredOn.{AnsweredOn}
use Rattle.frz_commands_inquiry.proofs.inquiring.answer_lines.Given as goal

abbrev pub invariant-lines : goal.invariant-lines
invariant-lines g l = record {
  far : AnsweredOn (reply_to (link_loaded l.own) (map loaded_back l.backs)) l.reader
      (source_of g.I.Source l.initial.input) (source_of g.I.Source l.input)
      (sink_of g.O.Sink l.initial.out) (sink_of g.O.Sink l.out);
  faults : g.I.Source.faults l.input ≡ g.I.Source.faults l.initial.input;
}

abbrev pub decreases-lines : goal.decreases-lines
decreases-lines g l = l.reader.more
