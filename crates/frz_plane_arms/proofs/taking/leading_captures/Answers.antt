use Rattle.std.proofs.Common.{◌≡◌, ◌<◌, [], List, ap, arith, length, refl, subst, ℕ, ◌∙◌}
use Rattle.std.specs.List.{slice_index_or}
use Rattle.std.proofs.lemmas.List.{get_or_default}
use Rattle.std.proofs.lemmas.Option.{slice_get_read}
use Rattle.frz_plane_arms.specs.declared.taking.KingArm.{KingArm}
use Rattle.frz_plane_arms.proofs.LedByCaptures.{Leads, taken_at_last, taken_more}
use Rattle.frz_plane_arms.proofs.taking.leading_captures.Goals as goal

pub loop-arm-preserved : goal.loop-arm-preserved
loop-arm-preserved c =
    let arms = c.args.arms.now in
    let i = c.loop-arm.arm-index in
    let arm = c.arm-item.result in
    let inside = c.requires.inside i arm c.loop-arm-test.true in
    let many = c.requires.many in
    let read = ap (λ (x : KingArm). x.target) c.arm-item.is in
    let low : arm.target < length c.args.lives.now = omega arith in
    let low_too : arm.target < length c.args.planes.now = omega arith in
    let after_is : c.index-lives-target.result ≡ slice_index_or c.args.lives.now arm.target [] =
    c.index-lives-target.is
    ∙ get_or_default c.args.lives.now arm.target c.index-lives-target.result [] low in
    let plane_is : c.index-planes-target.result ≡ slice_index_or c.args.planes.now arm.target [] =
    c.index-planes-target.is
    ∙ get_or_default c.args.planes.now arm.target c.index-planes-target.result [] low_too in
    let lines = c.args.lines.now in
    let turn = c.args.turn in
    let live = c.args.live.now in
    taken_more lines turn arms live c.args.lives.now c.args.planes.now c.args.into i arm
    c.loop-arm.pairs c.leading_to.result c.union_with.new.self c.loop-arm.invariant
    (slice_get_read arms (length arms) i arm refl c.loop-arm-test.true c.arm-item.is)
    (record {
      on_board = c.leading_to.ensures.on_board;
      leads = subst (λ (to : List ℕ). Leads lines turn live c.args.into arm
          (slice_index_or c.args.lives.now arm.target []) to c.leading_to.result) plane_is
          (subst (λ (next : List ℕ). Leads lines turn live c.args.into arm next
          c.index-planes-target.result c.leading_to.result) after_is c.leading_to.ensures.leading);
    })
    c.union_with.ensures

pub returns : goal.returns
returns c =
    taken_at_last c.args.lines.now c.args.turn c.args.arms.now c.args.live.now c.args.lives.now
    c.args.planes.now c.args.into c.loop-arm.arm-index c.loop-arm.pairs c.loop-arm-test.false
    c.loop-arm.invariant
