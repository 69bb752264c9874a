use Rattle.std.proofs.Common.{◌≡◌, ◌∙◌, ◌+◌, ◌++◌, ◌∷◌, [], List, ℕ, take, sym, ap, append_assoc, arith}
use Rattle.std.proofs.lemmas.List.{take_all}
use Rattle.frz_board.specs.Moving.{Step}
use Rattle.frz_sets.specs.declared.exit.Value.{Value}
use Rattle.frz_arena.specs.declared.arm.Arm.{Arm}
use Rattle.frz_premises.specs.Sides.{values_after, values_tell}
use Rattle.frz_premises.proofs.SideValues.{values_step}
use Rattle.frz_premises.proofs.sides.ExitValues.with_all.Goals as goal

pub loop-arm-preserved : goal.loop-arm-preserved
loop-arm-preserved c values is =
    let arms = c.args.arms.now in
    let i = c.loop-arm.arm-index in
    let arm = c.arm-item.result in
    let front : List Value = values_after (take i arms) in
    let step : values_after (take (i + 1) arms) ≡ front ++ values_after (arm ∷ []) =
    values_step arms i arm (omega arith) c.arm-item.is in
    c.with_arm-told.ensures (values ++ front) (c.loop-arm.invariant values is)
    ∙ ap values_tell (append_assoc values front (values_after (arm ∷ []))
    ∙ ap (λ (l : List Value). values ++ l) (sym step))

pub returns : goal.returns
returns c values is =
    c.loop-arm.invariant values is
    ∙ ap (λ (l : List (Arm Step ℕ Value)). values_tell (values ++ values_after l))
    (take_all c.loop-arm.arm-index c.args.arms.now (omega arith))
