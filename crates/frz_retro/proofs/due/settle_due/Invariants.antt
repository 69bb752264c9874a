use Rattle.frz_retro.specs.Tallies.{Grows, LooksAt}
use Rattle.frz_retro.proofs.due.settle_due.Given as goal

abbrev pub invariant-loop-i : goal.invariant-loop-i
invariant-loop-i g l = record {
  kept : LooksAt (g.G.NumberedGame.arena l.graph) (g.G.NumberedGame.count l.graph) l.side l.k 0 l.i
      l.fn.tally l.tally;
  queue : Grows l.fn.tally l.tally;
}
