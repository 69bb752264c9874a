use Rattle.std.proofs.Common.{◌≡◌, List, subst, sym, true}
use Rattle.std.specs.Prelude.{◌↔◌}
use Rattle.frz_sets.specs.declared.forbid.Forbid.{Forbid}
use Rattle.frz_planes.specs.Planes.{has_pair}
use Rattle.frz_plane_arms.specs.Arms.{MakesMember}
use Rattle.frz_plane_arms.specs.MenArms.{AreArms}
use Rattle.frz_plane_arms.specs.Inner.{AreKingArms, KingSteps, KingTakes}
use Rattle.frz_plane_arms.specs.declared.men.ManArm.{ManArm}
use Rattle.frz_plane_arms.specs.declared.taking.KingArm.{KingArm}
use Rattle.frz_plane_arms.proofs.LedInside.{led_inside}
use Rattle.frz_plane_arms.proofs.inside.leading_inside.Goals as goal

pub returns : goal.returns
returns c p k sound board are lively inner a b la lb =
    let r = c.args.rules.now in
    let planes = c.args.planes.now in
    let into = c.args.into in
    let men = subst (λ (arms : List ManArm). AreArms r p arms) (sym c.deref.ensures.value) inner.men in
    let captures = subst (λ (arms : List KingArm). AreKingArms r.groups p arms)
    (sym c.deref-2.ensures.value) inner.captures in
    led_inside r p k c.args.only_free into planes a b sound board c.leading_men-pairs.result
    c.leading_captures.result c.leading_steps.result c.union_with.new.self c.union_with-2.new.self
    (c.leading_men-pairs.ensures r p k sound board are men lively a b la lb)
    (subst (λ (lines : List Forbid). (has_pair c.leading_captures.result a b ≡ true)
    ↔ (MakesMember r.groups p a b × KingTakes r.groups lines p planes into a b))
    c.counted_lines-lines.ensures
    (c.leading_captures.ensures r p k sound (sym inner.turn) board are captures lively a b la lb))
    (subst (λ (lines : List Forbid). (has_pair c.leading_steps.result a b ≡ true)
    ↔ (MakesMember r.groups p a b × KingSteps r.groups lines p planes into a b))
    c.counted_lines-lines.ensures
    (c.leading_steps.ensures r p k sound (sym inner.turn) board are inner.quiet lively a b la lb))
    (c.union_with.ensures a b la lb) (c.union_with-2.ensures a b la lb)
