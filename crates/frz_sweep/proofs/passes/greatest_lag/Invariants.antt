use Rattle.std.proofs.Common.{◌≡◌, ◌≤◌, ◌<◌, ◌⊎◌, ℕ}
use Rattle.frz_sweep.specs.Winning.{IsWinningLag, LagsAt}
use Rattle.frz_sweep.proofs.passes.greatest_lag.Given as goal

abbrev pub invariant-loop-i : goal.invariant-loop-i
invariant-loop-i g l = record {
  within : (p : ℕ) → p < l.i → LagsAt (g.G.NumberedGame.arena l.game) l.side p l.most;
  reached : (l.most ≡ 0) ⊎ IsWinningLag (g.G.NumberedGame.arena l.game) l.side l.most;
  small : l.most ≤ 1000;
  later : l.fn.steps ≤ l.steps;
}
