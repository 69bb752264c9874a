use Rattle.std.proofs.Common.{◌∙◌, ap}
use Rattle.frz_board.specs.Men.{cell_of_man}
use Rattle.frz_sets.specs.Views.{GroupLine}
use Rattle.frz_index.proofs.MovedMen.{none_end, none_first, none_step}
use Rattle.frz_index.proofs.beside.is_touched.Goals as goal

pub loop-i-init : goal.loop-i-init
loop-i-init c = none_first c.args.group.now c.args.chart.now c.args.moved.now c.requires

pub loop-i-preserved : goal.loop-i-preserved
loop-i-preserved c =
    none_step c.args.group.now c.args.chart.now c.args.moved.now c.loop-i.i c.cell_of.result
    c.both.result c.kind_at.result c.requires c.loop-i.invariant c.kind_at.ensures
    (c.cell_of.ensures.cell
    ∙ ap (λ (g : GroupLine). cell_of_man (record { colour = g.colour; kind = c.kind_at.result }))
    c.group.view_is)
    c.both.ensures c.if-both-ne0.false

pub returns : goal.returns
returns c _ =
    none_end c.args.group.now c.args.chart.now c.args.moved.now c.loop-i.i c.requires
    c.loop-i-test.false c.loop-i.invariant
