use Rattle.std.proofs.Common.{◌∙◌, ◌+◌, List, arith, subst, sym}
use Rattle.frz_board.specs.Moving.{Step}
use Rattle.frz_fide.specs.Legal.{after}
use Rattle.frz_plane_arms.specs.Arms.{HasNoMember}
use Rattle.frz_plane_arms.specs.declared.men.ManArm.{ManArm}
use Rattle.frz_plane_arms.proofs.CollectedArms.{AreArmsBelow, all_there, one_more, passed_over}
use Rattle.frz_plane_arms.proofs.men.men_arms.Goals as goal

pub loop-k-preserved-in-Continue-1 : goal.loop-k-preserved-in-Continue-1
loop-k-preserved-in-Continue-1 c =
    let below = c.in-Some.ensures.below in (
      omega arith,
      subst (λ (arms : List ManArm). AreArmsBelow c.args.configurations.now.rules.now c.args.p.now arms (c.in-Some.k + 1))
          (sym c.in_ok-push.ensures.items)
          (one_more c.args.configurations.now.rules.now c.args.p.now c.loop-k.arms.items c.in-Some-arm_of.arm
          c.loop-k.n c.in-Some.k c.loop-k.invariant.1 c.in-Some.ensures
          c.in-Some-arm_of.ensures.0 (c.in-Some-arm_of.ensures.1 ∙ c.step_at.ensures)),
    )

pub loop-k-preserved : goal.loop-k-preserved
loop-k-preserved c =
    let below = c.in-Some.ensures.below in (
      omega arith,
      passed_over c.args.configurations.now.rules.now c.args.p.now c.loop-k.arms.items c.loop-k.n c.in-Some.k
          c.loop-k.invariant.1 c.in-Some.ensures
          (subst (λ (m : Step). HasNoMember c.args.configurations.now.rules.now.groups (after c.args.p.now m))
          c.step_at.ensures c.in_default-arm_of.ensures),
    )

pub returns : goal.returns
returns c =
    all_there c.args.configurations.now.rules.now c.args.p.now c.loop-k.arms.items c.loop-k.n c.loop-k.invariant.1
    c.in_default.ensures
