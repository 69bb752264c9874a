use Rattle.std.proofs.Common.{◌≡◌, ◌<◌, ◌-◌, ◌*◌, slice_index}
use Rattle.frz_index.proofs.chart.first_kind.Given as goal

abbrev pub invariant-loop-first : goal.invariant-loop-first
invariant-loop-first l = (l.first < 6) × (slice_index l.cuts (64 * l.first) ≡ 0)

abbrev pub decreases-loop-first : goal.decreases-loop-first
decreases-loop-first l = 5 - l.first
