use Rattle.std.proofs.Common.{◌≡◌, ◌∙◌, ◌<◌, ◌^◌, ap, arith, get_or}
use Rattle.frz_planes.proofs.Pairs.{count_all, count_below, count_more, few_ones}
use Rattle.frz_planes.proofs.plane.Plane.count.Goals as goal

pub overflow_add-count : goal.overflow_add-count
overflow_add-count c =
    let small : get_or c.self.inside.0 c.loop-row.row-index 0 < 2 ^ 64 = omega arith in
    let few = few_ones c.self.inside.0 c.loop-row.row-index small in
    omega (arith, c.loop-row.invariant.1)

pub loop-row-preserved : goal.loop-row-preserved
loop-row-preserved c =
    let small : get_or c.self.inside.0 c.loop-row.row-index 0 < 2 ^ 64 = omega arith in
    let few = few_ones c.self.inside.0 c.loop-row.row-index small in (
      count_more c.self.inside.0 c.loop-row.row-index c.loop-row.count small c.loop-row.invariant.0,
      omega (arith, c.loop-row.invariant.1),
    )

pub returns : goal.returns
returns c =
    let end : c.loop-row.row-index ≡ 64 = omega arith in
    rw (← c.self.view_is)
    (c.loop-row.invariant.0 ∙ ap (λ i. count_below c.self.inside.0 i) end
    ∙ count_all c.self.inside.0)
