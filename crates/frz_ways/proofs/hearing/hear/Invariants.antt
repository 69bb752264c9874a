use Rattle.std.proofs.Common.{◌≡◌}
use Rattle.frz_store.specs.Told.{source_of, sink_of}
use Rattle.frz_ways.proofs.LinesHeard.{HearsOn}
use Rattle.frz_ways.proofs.hearing.hear.Given as goal

abbrev pub invariant-lines : goal.invariant-lines
invariant-lines g l = record {
  far : HearsOn l.list.items l.initial.reader l.reader (source_of g.I.Source l.initial.input)
      (source_of g.I.Source l.input) (sink_of g.O.Sink l.initial.out) (sink_of g.O.Sink l.out);
  faults : g.I.Source.faults l.input ≡ g.I.Source.faults l.initial.input;
}

abbrev pub decreases-lines : goal.decreases-lines
decreases-lines g l = l.reader.more
