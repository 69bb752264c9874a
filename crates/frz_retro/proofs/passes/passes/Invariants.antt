use Rattle.std.proofs.Common.{◌≡◌, ◌≤◌, ◌+◌, ◌-◌}
use Rattle.frz_retro.specs.Tallies.{InPass}
use Rattle.frz_retro.specs.Work.{done_in}
use Rattle.frz_retro.proofs.passes.passes.Given as goal

abbrev pub invariant-passes : goal.invariant-passes
invariant-passes g l = record {
  kept : InPass (g.G.NumberedGame.arena l.graph) (g.G.NumberedGame.count l.graph) l.side l.k
      (g.G.NumberedGame.count l.graph) l.head (done_in l.tally.queue l.head) l.tally;
  tail : l.tail ≡ l.tally.tail;
  exits : l.tally.later ≡ l.fn.tally.later;
  early : l.k ≤ 1001 + l.head;
  cost : l.steps ≤ l.fn.steps + l.head;
  later : l.fn.steps ≤ l.steps;
}

abbrev pub decreases-passes : goal.decreases-passes
decreases-passes g l = (1003 + g.G.NumberedGame.count l.graph) - l.k
