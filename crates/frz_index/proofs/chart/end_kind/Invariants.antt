use Rattle.std.proofs.Common.{◌≡◌, ◌≤◌, ◌-◌, ◌*◌, slice_index}
use Rattle.frz_index.proofs.chart.end_kind.Given as goal

abbrev pub invariant-loop-end : goal.invariant-loop-end
invariant-loop-end l =
    (l.first ≤ l.end) × (l.end ≤ 6) × (slice_index l.cuts (64 * l.end) ≡ slice_index l.cuts 384)

abbrev pub decreases-loop-end : goal.decreases-loop-end
decreases-loop-end l = l.end - l.first
