use Rattle.std.proofs.Common.{◌∙◌, map, ap, arith}
use Rattle.frz_premises.specs.Sides.{values_tell}
use Rattle.frz_premises.specs.WaysOut.{outside_below}
use Rattle.frz_premises.proofs.SideValues.{values_more}
use Rattle.frz_premises.proofs.sides.exit_values.Goals as goal

pub loop-number-preserved : goal.loop-number-preserved
loop-number-preserved g c =
    let rules = c.args.game.now.rules.now in
    let value = g.B.ExitBook.value_at c.args.game.now.book.now in
    let n = c.loop-number.number in
    let i = c.loop-number.invariant in
    let e = c.nexts_by.ensures in
    record {
      told = c.with_all-told.ensures (map value (outside_below rules.groups n)) i.told
          ∙ ap values_tell (values_more rules value n c.as_slice.result.now
          (c.as_slice.ensures.value ∙ e.arms));
      steps = omega (arith, i.steps, e.step);
      later = omega (arith, i.later, e.later);
    }
