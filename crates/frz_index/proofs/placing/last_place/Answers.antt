use Rattle.std.proofs.Common.{◌<◌, ◌+◌, ◌-◌, ◌/◌, arith}
use Rattle.frz_combinations.specs.Binomials.{choose}
use Rattle.frz_index.proofs.LastPlaces.{above_later, first_fits, one_fits, one_greatest}
use Rattle.frz_index.proofs.placing.last_place.Goals as goal

pub returns-then-count-eq1-clause-fits : goal.returns-then-count-eq1-clause-fits
returns-then-count-eq1-clause-fits c =
    one_fits c.args.end c.args.count c.args.rank c.min.result c.if-count-eq1.true c.min.ensures

pub returns-then-count-eq1-clause-greatest : goal.returns-then-count-eq1-clause-greatest
returns-then-count-eq1-clause-greatest c =
    one_greatest c.args.end c.args.count c.args.rank c.min.result c.if-count-eq1.true c.min.ensures

pub loop-high-init : goal.loop-high-init
loop-high-init c = record {
  order = c.requires.end;
  within = omega arith;
  fits = first_fits c.args.count c.args.rank c.requires.some;
  above = λ x h l. absurd (omega arith);
}

pub loop-high-preserved : goal.loop-high-preserved
loop-high-preserved c =
    let middle = c.loop-high.low + (c.loop-high.high - c.loop-high.low) / 2 in
    let over : c.args.rank < choose middle c.args.count = omega
    (arith, c.if-binomial-rank.false, c.binomial.ensures, c.requires.small) in
    record {
      order = omega (arith, c.loop-high-test.true);
      within = omega (arith, c.loop-high-test.true, c.loop-high.invariant.within);
      fits = c.loop-high.invariant.fits;
      above = above_later c.args.end c.args.count c.args.rank middle over;
    }
