use Rattle.std.proofs.Common.{◌≡◌, ◌≤◌, ◌+◌, ◌-◌}
use Rattle.frz_retro.specs.Tallies.{InPass}
use Rattle.frz_retro.specs.Work.{done_in}
use Rattle.frz_retro.proofs.passes.pass.Given as goal

abbrev pub invariant-loop-at : goal.invariant-loop-at
invariant-loop-at g l = record {
  kept : InPass (g.G.NumberedGame.arena l.graph) (g.G.NumberedGame.count l.graph) l.side l.k
      (g.G.NumberedGame.count l.graph) l.fn.tally.tail (done_in l.tally.queue l.at) l.tally;
  tail : l.fn.tally.tail ≤ l.tally.tail;
  exits : l.tally.later ≡ l.fn.tally.later;
  cost : l.steps ≡ l.fn.steps + (l.at - l.head);
}
