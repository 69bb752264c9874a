use Rattle.std.proofs.Common.{◌+◌, ◌-◌, arith, ◌∙◌, ap}
use Rattle.frz_combinations.specs.Binomials.{capped}
use Rattle.frz_combinations.specs.Selections.{choices}
use Rattle.frz_index.proofs.GroupDigits.{offset_end, offset_step}
use Rattle.frz_index.proofs.digit.smaller.Goals as goal

pub loop-i-preserved : goal.loop-i-preserved
loop-i-preserved c = record {
  fits = omega (arith, c.saturating_add-sum.ensures);
  rest =
      ap (λ x. capped (x + choices c.args.states (c.loop-i.i + 1)
      (c.args.count - (c.loop-i.i + 1))))
      (c.saturating_add-sum.ensures ∙ ap (λ x. capped (c.loop-i.sum + x)) c.binomial.ensures)
      ∙ offset_step c.args.states c.loop-i.i c.args.count c.loop-i.sum
      (omega (arith, c.loop-i-test.true))
      ∙ c.loop-i.invariant.rest;
}

pub returns : goal.returns
returns c =
    offset_end c.args.states c.loop-i.i c.args.count c.loop-i.sum c.loop-i.invariant.fits
    c.loop-i-test.false
    ∙ c.loop-i.invariant.rest
