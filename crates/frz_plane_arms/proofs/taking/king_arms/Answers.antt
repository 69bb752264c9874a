use Rattle.std.proofs.Common.{◌+◌, ◌∙◌, Global, List, Vec, ap, subst, sym}
use Rattle.frz_plane_arms.specs.Inner.{HasNoCapture}
use Rattle.frz_plane_arms.specs.declared.taking.KingArm.{KingArm}
use Rattle.frz_plane_arms.proofs.CollectedCaptures.{AreKingArmsBelow, one_more, passed_over}
use Rattle.frz_plane_arms.proofs.taking.king_arms.Goals as goal
use Rattle.frz_plane_arms.proofs.taking.king_arms.Goals.{in-Some+in_ok-push, in_default}

pub loop-s-preserved : goal.loop-s-preserved
loop-s-preserved c =
    let gs = c.args.set.now in
    let p = c.args.p.now in
    let s = c.loop-s.s in
    let arms = c.loop-s.arms.items in
    elim c.match-king_arm.branch [
      | in-Some+in_ok-push w ↦ subst (λ (xs : List KingArm). AreKingArmsBelow gs p xs (s + 1))
          (sym (ap (λ (v : Vec KingArm Global). v.items) w.arms-is ∙ w.in_ok-push.ensures.items))
          (one_more gs p arms w.in-Some.arm s c.loop-s.invariant w.in-Some.ensures.0
          (w.in-Some.ensures.1 ∙ c.at.ensures))
      | in_default w ↦ subst (λ (xs : List KingArm). AreKingArmsBelow gs p xs (s + 1))
          (sym (ap (λ (v : Vec KingArm Global). v.items) w.arms-is))
          (passed_over gs p arms s c.loop-s.invariant
          (subst (HasNoCapture gs p) c.at.ensures w.in_default.ensures))
    ]
