use Rattle.std.proofs.Common.{◌≡◌, ◌+◌, slice_index, slice_set, sym, subst, ap, ◌∙◌, arith, inl, inr, length-set, get_or-set_same, get_or-set_other}
use Rattle.std.proofs.lemmas.Bool.{cases_eq}
use Rattle.frz_index.specs.Charts.{IsCut}
use Rattle.frz_index.proofs.Charting.{cut_here, cut_past}
use Rattle.frz_index.proofs.chart.cuts_of.Goals as goal
use Rattle.frz_index.proofs.chart.cuts_of.Goals.{then-is_at, else-is_at}

pub loop-x-preserved : goal.loop-x-preserved
loop-x-preserved c = record {
  size = length-set c.loop-x.cuts c.loop-x.x c.loop-x.k ∙ c.loop-x.invariant.size;
  here =
      elim c.if-is_at.branch [
        | then-is_at w ↦
            let at = c.is_at.ensures.0 w.if-is_at.true in
            subst (IsCut c.args.states.now (c.loop-x.x + 1)) (sym w.k-is)
            (cut_here c.args.states.now c.loop-x.x c.loop-x.k at.0 c.requires
            c.loop-x.invariant.here at.1 at.2)
        | else-is_at w ↦
            subst (IsCut c.args.states.now (c.loop-x.x + 1)) (sym w.k-is)
            (cut_past c.args.states.now c.loop-x.x c.loop-x.k c.requires c.loop-x.invariant.here
            (λ s e n. let t = c.is_at.ensures.1 (s, e, n) in let f = w.if-is_at.false in
            absurd cc))
      ];
  cut = λ y l.
      elim (cases_eq y c.loop-x.x) [
        | inl here ↦
            let read : slice_index (slice_set c.loop-x.cuts c.loop-x.x c.loop-x.k) y ≡ c.loop-x.k =
            ap (slice_index (slice_set c.loop-x.cuts c.loop-x.x c.loop-x.k)) here
            ∙ get_or-set_same c.loop-x.cuts c.loop-x.x c.loop-x.k 0
            (omega (arith, c.loop-x.invariant.size, c.loop-x-test.true)) in
            subst (IsCut c.args.states.now y) (sym read)
            (subst (λ x. IsCut c.args.states.now x c.loop-x.k) (sym here) c.loop-x.invariant.here)
        | inr other ↦
            subst (IsCut c.args.states.now y)
            (sym (get_or-set_other c.loop-x.cuts c.loop-x.x y c.loop-x.k 0 other))
            (c.loop-x.invariant.cut y (omega arith))
      ];
}
