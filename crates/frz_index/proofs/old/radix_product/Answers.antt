use Rattle.std.proofs.Common.{◌≡◌, arith, ap, length, ◌∙◌}
use Rattle.frz_sets.specs.Views.{GroupLine}
use Rattle.frz_index.proofs.RadixProducts.{product_end, product_more}
use Rattle.frz_index.specs.OldNumbers.{old_radix}
use Rattle.frz_index.proofs.old.radix_product.Goals as goal

pub loop-k-preserved : goal.loop-k-preserved
loop-k-preserved c =
    let s = length c.as_slice.result.now in
    let radix = c.radix.ensures ∙ ap (λ (g : GroupLine). old_radix s g.least c.loop-k.k)
    c.g.view_is in
    product_more s c.args.g.now.least c.loop-k.k c.loop-k.product c.radix.result
    c.saturating_mul-product.result c.loop-k.invariant radix c.saturating_mul-product.ensures

pub returns : goal.returns
returns c =
    let states = ap length c.as_slice.ensures.value ∙ ap (λ (g : GroupLine). length g.states)
    c.g.view_is in
    let end : c.loop-k.k ≡ c.g.inside.most = omega
    (arith, c.loop-k-test.false, c.loop-k.auto.k-end) in
    product_end c.args.g.now (length c.as_slice.result.now) c.loop-k.k c.loop-k.product states
    (end ∙ ap (λ (g : GroupLine). g.most) c.g.view_is) c.loop-k.invariant
