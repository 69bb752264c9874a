use Rattle.std.proofs.Common.{◌≡◌, ◌↔◌, ◌++◌, [], ◌∷◌, List, length, sym, ◌∙◌, ap, ap₂, subst, arith, length-append}
use Rattle.std.specs.List.{Contains, filter_map}
use Rattle.std.proofs.lemmas.List.{take_all}
use Rattle.frz_unmove.specs.Pairs.{HaveDifferentNumbers}
use Rattle.frz_unmove.specs.declared.preds.Pred.{Pred}
use Rattle.frz_retro.specs.Graphs.{IsMoveTo}
use Rattle.frz_worked.specs.Ten.{game, pred_to, preds_to}
use Rattle.frz_worked.specs.declared.ten.TheConstants.{EDGES}
use Rattle.frz_worked.proofs.TenNumbers.{preds_are, preds_more, preds_once, preds_same}
use Rattle.frz_worked.proofs.ten.TenGraph.preds.Goals as goal
use Rattle.frz_worked.proofs.ten.TenGraph.preds.Goals.{then-leads_to, else-leads_to}

pub loop-edge-preserved : goal.loop-edge-preserved
loop-edge-preserved g c = record {
  items = elim c.if-leads_to.branch [
    | then-leads_to w ↦
        w.out-is
        ∙ (w.push.ensures
        ∙ (ap₂ (λ (xs : List Pred) (p : Pred). xs ++ p ∷ []) c.loop-edge.invariant.items
        w.pred_of.ensures
        ∙ sym (preds_more c.args.q c.loop-edge.edge-index _ c.loop-edge-test.true
        (sym c.leads_to.ensures ∙ w.if-leads_to.true))))
    | else-leads_to w ↦
        w.out-is
        ∙ (c.loop-edge.invariant.items
        ∙ sym (preds_same c.args.q c.loop-edge.edge-index _ c.loop-edge-test.true
        (sym c.leads_to.ensures ∙ w.if-leads_to.false)))
  ];
  few = elim c.if-leads_to.branch [
    | then-leads_to w ↦
        let e = ap length w.out-is in
        let h = c.loop-edge.invariant.few in
        omega (arith, e, h, simp length-append at (ap length w.push.ensures))
    | else-leads_to w ↦
        let e = ap length w.out-is in
        let h = c.loop-edge.invariant.few in
        omega (arith, e, h)
  ];
}

pub returns-clause-all : goal.returns-clause-all
returns-clause-all g c i m =
    let e : c.loop-edge.out ≡ preds_to c.args.q = c.loop-edge.invariant.items
    ∙ ap (filter_map (pred_to c.args.q))
    (take_all c.loop-edge.edge-index EDGES c.loop-edge-test.false) in
    subst (λ xs. Contains xs (record { number = i; mv = m }) ↔ IsMoveTo game i m c.args.q) (sym e)
    (preds_are c.args.q i m)

pub returns-clause-once : goal.returns-clause-once
returns-clause-once g c =
    let e : c.loop-edge.out ≡ preds_to c.args.q = c.loop-edge.invariant.items
    ∙ ap (filter_map (pred_to c.args.q))
    (take_all c.loop-edge.edge-index EDGES c.loop-edge-test.false) in
    subst HaveDifferentNumbers (sym e) (preds_once c.args.q)
