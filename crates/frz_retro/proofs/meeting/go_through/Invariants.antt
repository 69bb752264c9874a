use Rattle.std.proofs.Common.{◌≡◌, ℕ, Bool, ◌≤◌, get_or, drop}
use Rattle.frz_retro.specs.Tallies.{AreComing, Grows, InPass}
use Rattle.frz_retro.specs.Work.{done_mid}
use Rattle.frz_retro.proofs.meeting.go_through.Given as goal

abbrev pub invariant-loop-pred : goal.invariant-loop-pred
invariant-loop-pred g l = record {
  kept : (k mid : ℕ) (done : ℕ → ℕ → Bool) →
      AreComing (g.G.NumberedGame.arena l.graph) (g.G.NumberedGame.count l.graph) l.side k mid done
      l.fn.tally l.q l.preds →
      InPass (g.G.NumberedGame.arena l.graph) (g.G.NumberedGame.count l.graph) l.side k
      (g.G.NumberedGame.count l.graph) mid (done_mid done l.q (drop l.pred-index l.preds)) l.tally;
  settled : (r : ℕ) → 2 ≤ get_or l.fn.tally.codes r 0 →
      get_or l.tally.codes r 0 ≡ get_or l.fn.tally.codes r 0;
  queue : Grows l.fn.tally l.tally;
}
