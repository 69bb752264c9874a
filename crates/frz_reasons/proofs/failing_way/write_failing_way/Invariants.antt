use Rattle.std.proofs.Common.{◌≡◌, ◌≤◌, ◌<◌, ◌+◌, ◌*◌, true, slice_index}
use Rattle.frz_store.specs.Told.{sink_of}
use Rattle.frz_arena.specs.Codes.{is_failure}
use Rattle.frz_reasons.proofs.Telling.{IsSoFar}
use Rattle.frz_reasons.proofs.failing_way.write_failing_way.Given as goal

abbrev pub invariant-plies : goal.invariant-plies
invariant-plies g l = record {
  inside : l.number < g.G.NumberedGame.count l.game;
  failing : is_failure (slice_index (g.E.Entries.codes l.entries l.side) l.number) ≡ true;
  so_far : IsSoFar (g.G.NumberedGame.arena l.game) l.side (g.E.Entries.codes l.entries l.side)
      l.start l.number (sink_of g.O.Sink l.initial.out) (sink_of g.O.Sink l.out);
  few : 2 * l.steps + slice_index (g.E.Entries.codes l.entries l.side) l.number
      ≤ 2 * l.initial.steps + slice_index (g.E.Entries.codes l.entries l.side) l.start;
  later : l.initial.steps ≤ l.steps;
}

abbrev pub decreases-plies : goal.decreases-plies
decreases-plies g l = slice_index (g.E.Entries.codes l.entries l.side) l.number
