use Rattle.std.proofs.Common.{◌≡◌, ◌<◌, ℕ, length, slice_index}
use Rattle.frz_index.specs.Charts.{IsCut}
use Rattle.frz_index.proofs.chart.cuts_of.Given as goal

abbrev pub invariant-loop-x : goal.invariant-loop-x
invariant-loop-x l = record {
  size : length l.cuts ≡ 385;
  here : IsCut l.states l.x l.k;
  cut : (y : ℕ) → y < l.x → IsCut l.states y (slice_index l.cuts y);
}
