use Rattle.std.proofs.Common.{◌*◌, slice_index}
use Rattle.frz_index.proofs.Counting.{counted_none}
use Rattle.frz_index.proofs.digit.count_men.Goals as goal

pub loop-i-init : goal.loop-i-init
loop-i-init c =
    counted_none c.args.p.now c.args.group.now
    (slice_index c.args.chart.now.cuts (64 * c.args.chart.now.first)) c.requires.chart.none_before
