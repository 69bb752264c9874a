use Rattle.std.proofs.Common.{◌≡◌, ◌∙◌, List, false, subst, sym}
use Rattle.std.specs.List.{All, slice_index_or}
use Rattle.frz_plane_arms.specs.declared.men.ManArm.{ManArm}
use Rattle.frz_plane_arms.specs.declared.taking.KingArm.{KingArm}
use Rattle.frz_plane_arms.proofs.UnmarkedWays.{never_marked}
use Rattle.frz_plane_arms.proofs.touching.touches.Goals as goal
use Rattle.frz_plane_arms.proofs.touching.touches.Goals.{then-step_touches, else-step_touches}

pub returns-else-men_touch : goal.returns-else-men_touch
returns-else-men_touch c off r p k a b only_free into planes sound board inner here =
    let moves = c.args.moves.now in
    let marks = c.args.marks.now in
    elim c.if-step_touches.branch [
      | then-step_touches w ↦ absurd (let on = w.value-is in let none = c.if-men_touch.false in cc)
      | else-step_touches w ↦
          never_marked marks r p k only_free into planes a b sound board here moves.men.items
          moves.quiet moves.captures.items inner.men inner.quiet inner.captures
          (subst (λ (arms : List ManArm). All (λ arm. slice_index_or marks arm.target false ≡ false)
          arms) w.deref.ensures.value
          (w.men_touch.ensures (sym w.value-is ∙ c.if-men_touch.false)))
          (c.step_touches.ensures w.if-step_touches.false)
          (subst (λ (arms : List KingArm). All (λ arm. slice_index_or marks arm.target false ≡ false)
          arms) c.deref-else-men_touch.ensures.value (c.captures_touch.ensures off))
    ]
