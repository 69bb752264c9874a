use Rattle.frz_combinations.proofs.pascal.binomial.Goals as goal

pub loop-preserved : goal.loop-preserved
loop-preserved c = c.next_row-row.ensures c.loop.counter c.loop.invariant
