use Rattle.std.proofs.Common.{◌≡◌, ◌∙◌, ◌+◌, ◌++◌, ◌∷◌, [], List, ℕ, map, take, sym, ap, subst, append_assoc, arith}
use Rattle.std.proofs.lemmas.List.{take_all}
use Rattle.frz_board.specs.Boards.{Board}
use Rattle.frz_board.specs.Moving.{Step}
use Rattle.frz_sets.specs.declared.exit.Value.{Value}
use Rattle.frz_arena.specs.declared.arm.Arm.{Arm}
use Rattle.frz_backs.specs.Loaded.{link_loaded}
use Rattle.frz_premises.specs.Trials.{AreTried, boards_after}
use Rattle.frz_premises.proofs.Trying.{boards_step}
use Rattle.frz_premises.proofs.walk.note_all.Goals as goal

pub note_arm-requires-clause-tried : goal.note_arm-requires-clause-tried
note_arm-requires-clause-tried c =
    let k = c.requires.tried in (
      k.0 ++ boards_after c.args.p.now (take c.loop-arm.arm-index c.args.arms.now),
      c.loop-arm.invariant k.0 k.1,
    )

pub loop-arm-preserved : goal.loop-arm-preserved
loop-arm-preserved c qs tried =
    let p = c.args.p.now in
    let arms = c.args.arms.now in
    let i = c.loop-arm.arm-index in
    let arm = c.arm-item.result in
    let front : List Board = boards_after p (take i arms) in
    let step : boards_after p (take (i + 1) arms) ≡ front ++ boards_after p (arm ∷ []) =
    boards_step p arms i arm (omega arith) c.arm-item.is in
    subst (λ (l : List Board). AreTried c.args.leans c.args.rules.now (map link_loaded c.args.backs.now) l
    c.note_arm.new.trials)
    (append_assoc qs front (boards_after p (arm ∷ []))
    ∙ ap (λ (l : List Board). qs ++ l) (sym step))
    (c.note_arm.ensures (qs ++ front) (c.loop-arm.invariant qs tried))

pub returns : goal.returns
returns c qs tried =
    subst (λ (l : List (Arm Step ℕ Value)). AreTried c.args.leans c.args.rules.now
    (map link_loaded c.args.backs.now) (qs ++ boards_after c.args.p.now l) c.loop-arm.trials)
    (take_all c.loop-arm.arm-index c.args.arms.now (omega arith)) (c.loop-arm.invariant qs tried)
