use Rattle.std.proofs.Common.{◌≤◌, ◌+◌, ◌-◌, ◌*◌, slice_index}
use Rattle.frz_index.specs.Charts.{IsCounted}
use Rattle.frz_index.proofs.digit.count_kind.Given as goal

abbrev pub invariant-loop-s : goal.invariant-loop-s
invariant-loop-s l = record {
  low : l.n ≤ 64;
  counted : IsCounted l.p l.group (slice_index l.chart.cuts (64 * l.i + l.n))
      (record { count = l.count; rank = l.rank; squares = l.squares });
}

abbrev pub decreases-loop-s : goal.decreases-loop-s
decreases-loop-s l = 64 - l.n
