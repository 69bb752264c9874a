use Rattle.std.proofs.Common.{ap, append-nil, arith, sym}
use Rattle.frz_sets.specs.Sets.{size_of}
use Rattle.frz_sets.specs.Views.{RuleLines}
use Rattle.frz_commands_premises.specs.PremiseLines.{behind_lines}
use Rattle.frz_commands_premises.proofs.Adding.{behind_more}
use Rattle.frz_commands_premises.proofs.Sizes.{sizes_here, sizes_more}
use Rattle.frz_commands_premises.proofs.lines.add_behind.Goals as goal

pub loop-place-init : goal.loop-place-init
unfolding behind_lines
loop-place-init g c = record {
  added = sym (append-nil c.args.lines.now.items);
  steps = omega arith;
  later = omega arith;
}

pub returns-in_err-add_text-clause-steps : goal.returns-in_err-add_text-clause-steps
returns-in_err-add_text-clause-steps g c =
    let here = sizes_here c.args.backs.now c.loop-place.place c.index-backs-place.result
    c.loop-place-test.true c.index-backs-place.is in
    let same = ap (λ (r : RuleLines). size_of r.groups) c.rules.ensures.rules in
    let before = c.loop-place.invariant.steps in
    let more = c.in_err-add_text.ensures.steps in
    omega (arith, here, same, before, more)

pub loop-place-preserved : goal.loop-place-preserved
loop-place-preserved g c =
    let backs = c.args.backs.now in
    let place = c.loop-place.place in
    let back = c.index-backs-place.result in
    let same = ap (λ (r : RuleLines). size_of r.groups) c.rules.ensures.rules in
    let sizes = sizes_more backs place back c.loop-place-test.true c.index-backs-place.is in
    let before = c.loop-place.invariant.steps in
    let more = c.in_ok-add_text.ensures.steps in
    record {
      added =
          behind_more backs place back c.args.lines.now.items c.loop-place.lines.items
          c.push.new.self.items c.add_text.new.lines.items c.leans.result c.text.result.now c.rules.result.now
          c.loop-place-test.true c.index-backs-place.is c.loop-place.invariant.added
          c.in_ok-push.ensures.items c.leans.ensures c.text.ensures c.rules.ensures.rules
          c.in_ok-add_text.ensures.added;
      steps = omega (arith, same, sizes, before, more);
      later = omega (arith, c.loop-place.invariant.later, c.in_ok-add_text.ensures.later);
    }
