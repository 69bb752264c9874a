use Rattle.std.proofs.Common.{length, refl, ap, sym, ◌∙◌, subst, ◌+◌, arith}
use Rattle.std.proofs.lemmas.Option.{slice_get_read}
use Rattle.frz_sets.specs.Sound.{AreStates}
use Rattle.frz_sets.specs.Views.{GroupLine}
use Rattle.frz_index.specs.Charts.{IsChart}
use Rattle.frz_index.proofs.Charting.{Charted, charted_end, charted_start, charted_step, states_read}
use Rattle.frz_index.proofs.plan.charts_of.Goals as goal

pub chart_of-requires : goal.chart_of-requires
chart_of-requires c =
    subst AreStates (sym (c.deref.ensures.value ∙ ap (λ (g : GroupLine). g.states) c.group.view_is))
    (states_read c.args.groups.now c.loop-group.group-index c.group-item.result c.requires
    c.loop-group-test.true c.group-item.is)

pub loop-group-init : goal.loop-group-init
loop-group-init c =
    subst (Charted c.args.groups.now 0) (sym c.new-charts.ensures.items)
    (charted_start c.args.groups.now)

pub loop-group-preserved : goal.loop-group-preserved
loop-group-preserved c =
    subst (Charted c.args.groups.now (c.loop-group.group-index + 1))
    (sym (c.in_ok-push.ensures.items))
    (charted_step c.args.groups.now c.loop-group.group-index c.loop-group.charts.items
    c.group-item.result c.chart_of.result c.loop-group.invariant
    (slice_get_read c.args.groups.now (length c.args.groups.now) c.loop-group.group-index
    c.group-item.result refl c.loop-group-test.true c.group-item.is)
    (subst (λ states. IsChart states c.chart_of.result)
    (c.deref.ensures.value ∙ ap (λ (g : GroupLine). g.states) c.group.view_is) c.chart_of.ensures))

pub returns : goal.returns
returns c =
    charted_end c.args.groups.now c.loop-group.group-index c.loop-group.charts.items
    c.loop-group.invariant
    (omega (arith, c.loop-group-test.false, c.loop-group.auto.group-index-end))
