use Rattle.std.proofs.Common.{◌≡◌, ◌+◌, ◌-◌, arith, ◌∙◌, ap}
use Rattle.frz_combinations.specs.Binomials.{choose}
use Rattle.frz_combinations.specs.Selections.{count_and_rank}
use Rattle.frz_index.proofs.GroupDigits.{men_step, men_stop, uncapped}
use Rattle.frz_index.proofs.placing.men_of.Goals as goal

pub returns-then-rest-ways-clause-men : goal.returns-then-rest-ways-clause-men
returns-then-rest-ways-clause-men c =
    men_stop c.args.states c.loop-count.count c.args.most c.loop-count.rest c.loop-count-test.true
    (omega (arith, c.if-rest-ways.true, c.binomial-ways.ensures))
    ∙ c.loop-count.invariant.rest

pub loop-count-preserved : goal.loop-count-preserved
loop-count-preserved c =
    let w : c.binomial-ways.result ≡ choose c.args.states c.loop-count.count =
    uncapped _ _ c.args.digit c.binomial-ways.ensures
    (omega (arith, c.if-rest-ways.false, c.loop-count.invariant.small)) (omega arith) in
    record {
      most = omega (arith, c.loop-count-test.true);
      small = omega (arith, c.loop-count.invariant.small);
      rest =
          ap (λ x. count_and_rank c.args.states (c.loop-count.count + 1)
          (c.args.most - (c.loop-count.count + 1)) (c.loop-count.rest - x)) w
          ∙ men_step c.args.states c.loop-count.count c.args.most c.loop-count.rest
          c.loop-count-test.true (omega (arith, w, c.if-rest-ways.false))
          ∙ c.loop-count.invariant.rest;
    }
