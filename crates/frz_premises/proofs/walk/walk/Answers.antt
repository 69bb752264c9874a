use Rattle.std.proofs.Common.{◌≡◌, ◌∙◌, ℕ, map, ap, subst, arith}
use Rattle.frz_sets.specs.Sets.{size_of}
use Rattle.frz_backs.specs.Loaded.{link_loaded}
use Rattle.frz_premises.specs.Trials.{AreTried}
use Rattle.frz_premises.specs.WaysOut.{outside_below}
use Rattle.frz_premises.proofs.walk.walk.Goals as goal

pub loop-number-init : goal.loop-number-init
loop-number-init g c = record {
  tried = c.requires.tried;
  steps = omega arith;
  later = omega arith;
}

pub loop-number-preserved : goal.loop-number-preserved
loop-number-preserved g c =
    let e = c.look.ensures in
    let i = c.loop-number.invariant in
    record {
      tried = e.tried;
      steps = omega (arith, i.steps, e.step);
      later = omega (arith, i.later, e.later);
    }

pub returns-clause-tried : goal.returns-clause-tried
returns-clause-tried g c =
    let rules = c.args.game.now.rules.now in
    let size_is : c.size-number-end.result ≡ size_of rules.groups = c.size-number-end.ensures.size
    ∙ ap size_of c.args.game.now.fits in
    let end : c.loop-number.number ≡ size_of rules.groups = omega arith in
    subst (λ (k : ℕ). AreTried c.args.leans rules (map link_loaded c.args.backs.now)
    (outside_below rules.groups k) c.loop-number.trials) end c.loop-number.invariant.tried
