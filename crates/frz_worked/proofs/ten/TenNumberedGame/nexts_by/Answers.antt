use Rattle.std.proofs.Common.{◌++◌, [], ◌∷◌, List, length, sym, ◌∙◌, ap, ap₂, arith}
use Rattle.frz_graph.specs.declared.lists.Lists.{Lists}
use Rattle.frz_retro.specs.Graphs.{Arm}
use Rattle.frz_worked.proofs.TenNumbers.{arms_more, arms_same}
use Rattle.frz_worked.proofs.ten.TenNumberedGame.nexts_by.Goals as goal
use Rattle.frz_worked.proofs.ten.TenNumberedGame.nexts_by.Goals.{then-edge-i, else-edge-i}

pub loop-edge-preserved : goal.loop-edge-preserved
loop-edge-preserved g c = record {
  items = elim c.if-edge-i.branch [
    | then-edge-i w ↦
        ap (λ (x : Lists). x.nexts.items) w.lists-is
        ∙ (w.push.ensures.items
        ∙ (ap₂ (λ (xs : List Arm) (a : Arm). xs ++ a ∷ []) c.loop-edge.invariant.items
        w.arm_of.ensures
        ∙ sym (arms_more c.args.i c.loop-edge.edge-index _ c.loop-edge-test.true w.if-edge-i.true)))
    | else-edge-i w ↦
        ap (λ (x : Lists). x.nexts.items) w.lists-is
        ∙ (c.loop-edge.invariant.items
        ∙ sym (arms_same c.args.i c.loop-edge.edge-index _ c.loop-edge-test.true w.if-edge-i.false))
  ];
  few = elim c.if-edge-i.branch [
    | then-edge-i w ↦
        let e = ap (λ (x : Lists). length x.nexts.items) w.lists-is in
        let l = w.push.ensures.len in
        let h = c.loop-edge.invariant.few in
        omega (arith, e, l, h)
    | else-edge-i w ↦
        let e = ap (λ (x : Lists). length x.nexts.items) w.lists-is in
        let h = c.loop-edge.invariant.few in
        omega (arith, e, h)
  ];
}
