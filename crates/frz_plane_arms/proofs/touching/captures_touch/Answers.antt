use Rattle.std.proofs.Common.{◌≡◌, List, false, subst}
use Rattle.std.specs.List.{All, slice_index_or}
use Rattle.std.proofs.lemmas.List.{take_all}
use Rattle.std.proofs.lemmas.List.Elements.{All-more}
use Rattle.frz_plane_arms.specs.declared.taking.KingArm.{KingArm}
use Rattle.frz_plane_arms.proofs.touching.captures_touch.Goals as goal

pub loop-arm-preserved : goal.loop-arm-preserved
loop-arm-preserved c =
    let marks = c.args.marks.now in
    All-more (λ (arm : KingArm). slice_index_or marks arm.target false ≡ false) c.args.arms.now
    c.loop-arm.arm-index c.arm-item.result c.loop-arm-test.true c.loop-arm.invariant
    (subst (λ (arm : KingArm). slice_index_or marks arm.target false ≡ false) c.arm-item.is
    c.if-marks-arm.false)

pub returns : goal.returns
returns c _ =
    let marks = c.args.marks.now in
    subst (λ (arms : List KingArm). All (λ arm. slice_index_or marks arm.target false ≡ false) arms)
    (take_all c.loop-arm.arm-index c.args.arms.now c.loop-arm-test.false) c.loop-arm.invariant
