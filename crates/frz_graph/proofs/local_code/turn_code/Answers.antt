use Rattle.std.proofs.Common.{◌≡◌, ◌<◌, ◌++◌, [], ◌∷◌, sym, subst, length, take, get_or}
use Rattle.frz_arena.specs.Best.{IsBest}
use Rattle.frz_graph.specs.FreeCodes.{counted_codes}
use Rattle.frz_graph.proofs.FreeCodes.{best_counted, best_passed}
use Rattle.frz_graph.proofs.local_code.turn_code.Goals as goal
use Rattle.frz_graph.proofs.local_code.turn_code.Goals.{then-counts, else-counts}

pub loop-i-preserved : goal.loop-i-preserved
loop-i-preserved c =
    let arms = c.args.list.now.items in
    let cs = c.args.codes.now.items in
    let i = c.loop-i.i in
    let own = c.args.own in
    let arm = c.arm-item.result in
    let so_far = counted_codes own (take i arms) (take i cs) in
    let here : arm ≡ get_or arms i arm = subst (λ xs. arm ≡ get_or xs i arm)
    c.as_slice-arm-items.ensures.value c.arm-item.is in
    let below : i < length arms = subst (λ xs. i < length xs) c.as_slice-arm-items.ensures.value
    c.loop-i-test.true in
    elim c.if-counts.branch [
      | then-counts w ↦
          best_counted own arms cs i arm c.counts.result c.if-counts.best here below c.requires
          c.counts.ensures w.if-counts.true
          (subst (λ b. IsBest own (so_far ++ get_or cs i 0 ∷ []) b) (sym w.best-is)
          (subst (λ xs. IsBest own (so_far ++ get_or xs i 0 ∷ []) w.with-best.result)
          w.deref.ensures.0 (w.with-best.ensures own so_far c.loop-i.invariant)))
      | else-counts w ↦
          best_passed own arms cs i arm c.counts.result c.if-counts.best here below c.requires
          c.counts.ensures w.if-counts.false
          (subst (λ b. IsBest own so_far b) (sym w.best-is) c.loop-i.invariant)
    ]
