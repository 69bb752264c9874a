use Rattle.std.proofs.Common.{◌≡◌, ◌+◌, ◌*◌, slice_index, refl, sym, subst, ap, ◌∙◌, arith}
use Rattle.frz_fide.specs.Words.{IsNext}
use Rattle.frz_combinations.specs.Binomials.{capped, choose}
use Rattle.frz_sets.specs.Views.{GroupLine}
use Rattle.frz_index.specs.Charts.{IsCounted}
use Rattle.frz_index.specs.declared.digit.Counted.{Counted}
use Rattle.frz_index.proofs.Counting.{counted_at, counted_on, counts, ends, men_of, met_on, too_many}
use Rattle.frz_index.proofs.digit.count_kind.Goals as goal

pub returns-then-count-group : goal.returns-then-count-group
returns-then-count-group c =
    let colour = ap (λ (g : GroupLine). g.colour) c.group.view_is in
    let men = men_of c.args.p.now c.args.group.now c.args.chart.now c.args.i c.both-men.result
    c.men.result c.group.inside.colour c.kind_at.result c.requires.chart c.requires.kind
    c.men.ensures colour c.kind_at.ensures c.both-men.ensures in
    let most = ap (λ (g : GroupLine). g.most) c.group.view_is in
    omega (
      arith,
      too_many c.args.p.now c.args.group.now c.args.chart.now c.args.i c.both-men.result
          c.loop-s.n c.in-Some.s men c.in-Some.ensures,
      c.loop-s.invariant.counted.count_is,
      c.if-count-group.true,
      most,
    )

pub loop-s-preserved : goal.loop-s-preserved
loop-s-preserved c =
    let p = c.args.p.now in
    let g = c.args.group.now in
    let chart = c.args.chart.now in
    let i = c.args.i in
    let s = c.in-Some.s in
    let colour = ap (λ (g : GroupLine). g.colour) c.group.view_is in
    let most = ap (λ (g : GroupLine). g.most) c.group.view_is in
    let men = men_of p g chart i c.both-men.result c.men.result c.group.inside.colour
    c.kind_at.result c.requires.chart c.requires.kind c.men.ensures colour c.kind_at.ensures
    c.both-men.ensures in
    let next : IsNext c.both-men.result c.loop-s.n s = c.in-Some.ensures in
    let number = c.number-n.ensures.number in
    let place : c.number.result ≡ s = c.number.ensures.number in
    let before : Counted =
    record { count = c.loop-s.count; rank = c.loop-s.rank; squares = c.loop-s.squares } in
    let now : Counted = record {
      count = c.loop-s.count + 1;
      rank = c.saturating_add-rank.result;
      squares = c.replaced-squares.result;
    } in
    let after : IsCounted p g (slice_index chart.cuts (64 * i + (s + 1))) now =
    counted_on p g (slice_index chart.cuts (64 * i + s)) s
    (slice_index chart.cuts (64 * i + c.loop-s.n)) (slice_index chart.cuts (64 * i + (s + 1)))
    c.binomial.result before now
    (counts p g chart i c.both-men.result c.loop-s.n s men next)
    (met_on p g chart i c.both-men.result s men next.on_board next.there)
    (omega (arith, c.loop-s.invariant.counted.few, c.if-count-group.false, most))
    c.loop-s.invariant.counted
    (c.binomial.ensures
    ∙ ap (λ x. capped (choose (slice_index chart.cuts (64 * i + x)) (c.loop-s.count + 1))) place)
    refl c.saturating_add-rank.ensures c.replaced-squares.ensures in
    record {
      low = omega (arith, number, next.on_board);
      counted = subst (λ x. IsCounted p g (slice_index chart.cuts (64 * i + (x + 1))) now)
          (sym number) after;
    }

pub returns : goal.returns
returns c =
    let colour = ap (λ (g : GroupLine). g.colour) c.group.view_is in
    let men = men_of c.args.p.now c.args.group.now c.args.chart.now c.args.i c.both-men.result
    c.men.result c.group.inside.colour c.kind_at.result c.requires.chart c.requires.kind
    c.men.ensures colour c.kind_at.ensures c.both-men.ensures in
    counted_at c.args.p.now c.args.group.now _
    (slice_index c.args.chart.now.cuts (64 * (c.args.i + 1))) _ _
    (ends c.args.p.now c.args.group.now c.args.chart.now c.args.i c.both-men.result c.loop-s.n men
    c.loop-s.invariant.low c.in_default.ensures) c.loop-s.invariant.counted refl refl refl
