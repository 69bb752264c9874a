use Rattle.std.proofs.Common.{◌≡◌, ◌<◌, ℕ, length, slice_index}
use Rattle.frz_squares.specs.SquareSets.{set_of}
use Rattle.frz_index.specs.Kept.{is_known}
use Rattle.frz_index.proofs.plan.known_squares_of.Given as goal

abbrev pub invariant-loop-cell : goal.invariant-loop-cell
invariant-loop-cell l = record {
  size : length l.words ≡ 13;
  known : (k : ℕ) → k < l.cell → slice_index l.words k ≡ set_of (is_known l.groups k);
}
