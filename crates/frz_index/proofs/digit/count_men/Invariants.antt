use Rattle.std.proofs.Common.{◌*◌, slice_index}
use Rattle.frz_index.specs.Charts.{IsCounted}
use Rattle.frz_index.proofs.digit.count_men.Given as goal

abbrev pub invariant-loop-i : goal.invariant-loop-i
invariant-loop-i l = IsCounted l.p l.group (slice_index l.chart.cuts (64 * l.i)) l.counted
