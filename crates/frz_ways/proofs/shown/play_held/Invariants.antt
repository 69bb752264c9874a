use Rattle.std.proofs.Common.{◌≡◌, ◌≤◌, ◌<◌, ◌-◌, length, take, true}
use Rattle.frz_store.specs.Told.{source_of, sink_of}
use Rattle.frz_ways.specs.Hearing.{HasEnded}
use Rattle.frz_ways.proofs.HeldLines.{HeldFar}
use Rattle.frz_ways.proofs.shown.play_held.Given as goal

abbrev pub invariant-plies : goal.invariant-plies
invariant-plies g l = record {
  inside : l.cursor.number < g.G.NumberedGame.count l.game;
  few : l.cursor.played ≤ 100;
  room : length l.seen ≡ 101;
  far : HeldFar (g.G.NumberedGame.arena l.game) l.player.side
      (g.E.Entries.codes l.entries l.player.side) l.start l.cursor l.initial.reader
      (take l.cursor.played l.seen) (sink_of g.O.Sink l.initial.out) (sink_of g.O.Sink l.out)
      l.initial.steps l.steps;
  ended : l.reader.ended ≡ true → HasEnded (source_of g.I.Source l.input);
  same : l.reader ≡ l.initial.reader;
  unread : l.input ≡ l.initial.input;
  later : l.initial.steps ≤ l.steps;
}

abbrev pub decreases-plies : goal.decreases-plies
decreases-plies g l = 101 - l.cursor.played
