use Rattle.frz_index.proofs.Charting.{words_end, words_read}
use Rattle.frz_index.proofs.chart.words_of.Goals as goal

pub loop-k-preserved : goal.loop-k-preserved
loop-k-preserved c =
    words_read c.args.states.now c.loop-k.k c.loop-k.words c.index-states-k.result
    c.index-states-k-in-loop-k.result c.kind_number-i.result c.replaced.result c.requires
    c.loop-k.invariant c.loop-k-test.true c.index-states-k.is c.index-states-k-in-loop-k.is
    c.kind_number-i.ensures.number c.replaced.ensures

pub returns : goal.returns
returns c =
    words_end c.args.states.now c.loop-k.k c.loop-k.words c.loop-k-test.false c.loop-k.invariant
