use Rattle.std.proofs.Common.{arith, length, refl}
use Rattle.std.proofs.lemmas.Option.{slice_get-get_or, slice_get_read}
use Rattle.frz_index.proofs.room.any_unfilled.Goals as goal

pub is_unfilled-requires-clause-chart : goal.is_unfilled-requires-clause-chart
is_unfilled-requires-clause-chart c =
    c.requires.charts.each c.loop-i.i c.index-groups-i.result _
    (slice_get_read c.args.groups.now (length c.args.groups.now) c.loop-i.i c.index-groups-i.result
    refl c.loop-i-test.true c.index-groups-i.is)
    (slice_get-get_or c.args.charts.now c.loop-i.i _
    (omega (arith, c.requires.charts.size, c.loop-i-test.true)))
