use Rattle.std.proofs.Common.{◌≡◌, ◌≤◌, ◌<◌, ◌+◌, ◌*◌, ℕ, true, false, slice_index}
use Rattle.frz_sweep.specs.Told.{IsTold}
use Rattle.frz_sweep.proofs.plies.settle_all.Given as goal

-- the codes of the numbers below i tell this ply too, the others only the plies before it
abbrev pub invariant-loop-i : goal.invariant-loop-i
invariant-loop-i g l = record {
  before : (p : ℕ) → p < l.i →
      IsTold (g.G.NumberedGame.arena l.game) l.side (l.ply + 1) p (slice_index l.codes p);
  after : (p : ℕ) → l.i ≤ p →
      IsTold (g.G.NumberedGame.arena l.game) l.side l.ply p (slice_index l.codes p);
  same : l.changed ≡ false → l.codes ≡ l.fn.codes;
  later : l.fn.steps ≤ l.steps;
  late : l.changed ≡ true → 0 < l.ply →
      (p : ℕ) × (p < l.i) × (2 + 2 * l.ply ≤ slice_index l.codes p);
}
