use Rattle.frz_index.proofs.RadixProducts.{times_end, times_more, times_start}
use Rattle.frz_index.proofs.old.size.Goals as goal

pub loop-g-init : goal.loop-g-init
loop-g-init c =
    times_start c.args.groups.now c.target_count.result c.target_count.ensures.count
    c.target_count.ensures.few

pub loop-g-preserved : goal.loop-g-preserved
loop-g-preserved c =
    times_more c.args.groups.now c.loop-g.g-index c.loop-g.total c.radix_product.result
    c.saturating_mul-total.result c.g-item.result c.loop-g-test.true c.g-item.is c.loop-g.invariant
    c.radix_product.ensures c.saturating_mul-total.ensures

pub returns : goal.returns
returns c =
    times_end c.args.groups.now c.loop-g.g-index c.loop-g.total c.loop-g-test.false
    c.loop-g.invariant
