use Rattle.std.proofs.Common.{◌≡◌, ◌<◌, ◌≤◌, ◌*◌, ◌+◌, arith}
use Rattle.frz_index.proofs.GroupSteps.{at_plain, factor_fits}
use Rattle.frz_index.specs.Kept.{product_from}
use Rattle.frz_sets.specs.Sets.{radix_of}
use Rattle.frz_index.proofs.plan.product_from.Goals as goal

fits : (c : goal.After-radix) →
    (c.radix.result ≡ radix_of c.index-groups-i.result)
    × (c.loop-i.product * c.radix.result ≤ 134217728) × (c.radix.result ≤ 134217728)
    × ((c.loop-i.product * c.radix.result) * product_from c.args.groups.now (c.loop-i.i + 1)
    ≡ product_from c.args.groups.now c.args.from) × (0 < c.loop-i.product * c.radix.result)
fits c =
    factor_fits c.args.groups.now c.args.from c.loop-i.i c.loop-i.product c.index-groups-i.result
    c.radix.result c.requires.numberable
    (at_plain c.args.groups.now c.loop-i.i c.index-groups-i.result c.requires.numberable
    c.loop-i-test.true c.index-groups-i.is) c.loop-i.invariant.so_far c.loop-i.invariant.some
    c.radix.ensures

pub overflow_cast-product : goal.overflow_cast-product
overflow_cast-product c = omega (arith, (fits c).2)

pub overflow_mul-product : goal.overflow_mul-product
overflow_mul-product c = omega (arith, (fits c).1)

pub loop-i-preserved : goal.loop-i-preserved
loop-i-preserved c = record { some = (fits c).4; so_far = (fits c).3 }
