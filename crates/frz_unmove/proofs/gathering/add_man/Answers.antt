use Rattle.std.proofs.Common.{◌≡◌, sym, ◌∙◌, Some, None, arith, inl, inr, ◌&&◌, Option}
use Rattle.std.proofs.lemmas.Bool.{both_ways}
use Rattle.frz_board.specs.declared.man.Kind.{Kind}
use Rattle.frz_board.specs.Moving.{is_promotion}
use Rattle.frz_fide.specs.Legal.{is_last}
use Rattle.frz_unmove.specs.Gathering.{ComesAs, ComesTo}
use Rattle.frz_unmove.proofs.Begins.{promo_cases_at}
use Rattle.frz_unmove.proofs.Adding.{adds_both, adds_same}
use Rattle.frz_unmove.proofs.gathering.add_man.Goals as goal

not_none : (k : Kind) (o : Option Kind) → o ≡ None → o ≡ Some k → ⊥
not_none k None e f = cc
not_none k (Some j) e f = cc

pub returns-then-is_promoted : goal.returns-then-is_promoted
returns-then-is_promoted c =
    let gs = c.args.set.now in
    let q = c.args.q.now in
    let b = c.args.to in
    adds_both (ComesAs gs q b None) (ComesAs gs q b (Some c.args.man.kind)) (ComesTo gs q b)
    c.args.out.now c.add_as.new.out c.add_as-then-is_promoted.new.out 3456 3456 6912
    c.add_as.ensures c.add_as-then-is_promoted.ensures (omega arith)
    (λ x h k. not_none c.args.man.kind x.mv.promo h.1 k.1)
    (λ x h. h.0)
    (λ x h. h.0)
    (λ x h. elim (promo_cases_at gs q b x h c.args.man c.requires.man) [
      | inl e ↦ inl (h, e)
      | inr e ↦ inr (h, e.0)
    ])

pub returns-else-is_promoted : goal.returns-else-is_promoted
returns-else-is_promoted c =
    let gs = c.args.set.now in
    let q = c.args.q.now in
    let b = c.args.to in
    adds_same (ComesAs gs q b None) (ComesTo gs q b) c.args.out.now c.add_as.new.out 3456 6912
    c.add_as.ensures (omega arith)
    (λ x h. h.0)
    (λ x h. elim (promo_cases_at gs q b x h c.args.man c.requires.man) [
      | inl e ↦ (h, e)
      | inr e ↦
          absurd (both_ways (is_last c.args.man.colour b && is_promotion (Some c.args.man.kind))
          (sym c.is_promoted.ensures ∙ c.if-is_promoted.false) e.1)
    ])
