use Rattle.frz_retro.specs.Tallies.{HasBegun, IsGreatest}
use Rattle.frz_retro.proofs.beginning.begin_noted.Given as goal

abbrev pub invariant-loop-i : goal.invariant-loop-i
invariant-loop-i g l = record {
  begun : HasBegun (g.G.NumberedGame.arena l.graph) (g.G.NumberedGame.count l.graph) l.side l.i
      l.tally;
  greatest : IsGreatest l.tally.later l.i l.last;
}
