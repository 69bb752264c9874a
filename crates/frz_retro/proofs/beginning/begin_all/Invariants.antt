use Rattle.std.proofs.Common.{◌≤◌, ◌+◌}
use Rattle.frz_board.specs.Men.{other_of}
use Rattle.frz_retro.specs.Notes.{AreNoted}
use Rattle.frz_retro.specs.Tallies.{HasBegun, IsGreatest}
use Rattle.frz_retro.proofs.beginning.begin_all.Given as goal

abbrev pub invariant-loop-i : goal.invariant-loop-i
invariant-loop-i g l = record {
  begun : HasBegun (g.G.NumberedGame.arena l.graph) (g.G.NumberedGame.count l.graph) l.side l.i
      l.tally;
  noted : AreNoted (g.G.NumberedGame.arena l.graph) (g.G.NumberedGame.count l.graph)
      (other_of l.side) l.i l.notes;
  greatest : IsGreatest l.tally.later l.i l.last;
  cost : l.steps ≤ l.fn.steps + l.i;
  later : l.fn.steps ≤ l.steps;
}
