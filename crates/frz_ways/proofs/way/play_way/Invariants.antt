use Rattle.std.proofs.Common.{◌≡◌, ◌≤◌, ◌<◌, ◌⊎◌, true, false}
use Rattle.frz_store.specs.Told.{source_of, sink_of, StoreQuiet, StoreFine}
use Rattle.frz_arena.specs.Codes.{is_failure}
use Rattle.frz_answer.specs.World.{spent_by}
use Rattle.frz_ways.specs.declared.opponent.Opponent.TheVariants as opponents
use Rattle.frz_ways.specs.Hearing.{HasEnded}
use Rattle.frz_ways.proofs.Counting.{HasFew, way_left}
use Rattle.frz_ways.proofs.WaySoFar.{SoFar}
use Rattle.frz_ways.proofs.way.play_way.Given as goal

abbrev pub invariant-plies : goal.invariant-plies
invariant-plies g l = record {
  inside : l.cursor.number < g.G.NumberedGame.count l.game;
  stands : (l.cursor.played ≡ 0) ⊎ (is_failure l.cursor.code ≡ false);
  ended : l.reader.ended ≡ true → HasEnded (source_of g.I.Source l.input);
  few : HasFew l.player.opponent (g.G.NumberedGame.arena l.game) l.player.side l.reader l.cursor;
  no_more : l.reader.more ≤ l.initial.reader.more;
  far : SoFar (g.T.KeptCodes.known l.table (g.T.KeptCodes.told l.initial.store).files
      l.player.side) (g.T.KeptCodes.size l.table)
      (g.G.NumberedGame.arena l.game) l.player.opponent l.player.side l.start l.code l.initial.reader
      l.cursor l.reader (source_of g.I.Source l.initial.input) (source_of g.I.Source l.input)
      (sink_of g.O.Sink l.initial.out) (sink_of g.O.Sink l.out)
      (spent_by (g.T.KeptCodes.told l.initial.store) l.initial.steps)
      (spent_by (g.T.KeptCodes.told l.store) l.steps);
  unread : l.player.opponent ≡ opponents.Codes → l.input ≡ l.initial.input;
  quiet : StoreQuiet (g.T.KeptCodes.told l.initial.store) (g.T.KeptCodes.told l.store);
  fine : StoreFine (g.T.KeptCodes.told l.initial.store) (g.T.KeptCodes.told l.store);
  heard : g.I.Source.faults l.input ≡ g.I.Source.faults l.initial.input;
  later : l.initial.steps ≤ l.steps;
}

abbrev pub decreases-plies : goal.decreases-plies
decreases-plies g l =
    way_left l.player.opponent (g.G.NumberedGame.arena l.game) l.player.side l.reader l.cursor
