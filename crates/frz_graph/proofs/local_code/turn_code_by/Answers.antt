use Rattle.std.proofs.Common.{◌≡◌, ◌++◌, [], ◌∷◌, map, ap, sym, ◌∙◌, subst, take, get_or}
use Rattle.std.proofs.lemmas.List.{get_or-map, length-map}
use Rattle.frz_arena.specs.Best.{IsBest}
use Rattle.frz_graph.specs.EntryCodes.{arm_code}
use Rattle.frz_graph.specs.FreeCodes.{counted_codes}
use Rattle.frz_graph.proofs.FreeCodes.{best_counted, best_passed}
use Rattle.frz_graph.proofs.local_code.turn_code_by.Goals as goal
use Rattle.frz_graph.proofs.local_code.turn_code_by.Goals.{then-counts, else-counts}

pub loop-arm-preserved : goal.loop-arm-preserved
loop-arm-preserved g c =
    let arms = c.as_slice-arm-items.result.now in
    let code = arm_code c.args.side (g.E.Entries.codes c.args.entries.now c.args.side) in
    let cs = map code arms in
    let i = c.loop-arm.arm-index in
    let own = c.args.own in
    let arm = c.arm-item.result in
    let so_far = counted_codes own (take i arms) (take i cs) in
    let here : code arm ≡ get_or cs i 0 =
    ap code c.arm-item.is ∙ sym (get_or-map code arms i arm 0 c.loop-arm-test.true) in
    elim c.if-counts.branch [
      | then-counts w ↦
          best_counted own arms cs i arm c.counts.result c.if-counts.best c.arm-item.is
          c.loop-arm-test.true (sym (length-map arms code)) c.counts.ensures w.if-counts.true
          (subst (λ b. IsBest own (so_far ++ get_or cs i 0 ∷ []) b) (sym w.best-is)
          (subst (λ x. IsBest own (so_far ++ x ∷ []) w.with-best.result)
          (w.next_code_of.ensures ∙ here)
          (w.with-best.ensures own so_far c.loop-arm.invariant)))
      | else-counts w ↦
          best_passed own arms cs i arm c.counts.result c.if-counts.best c.arm-item.is
          c.loop-arm-test.true (sym (length-map arms code)) c.counts.ensures w.if-counts.false
          (subst (λ b. IsBest own so_far b) (sym w.best-is) c.loop-arm.invariant)
    ]
