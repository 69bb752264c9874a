use Rattle.frz_index.proofs.Charting.{Words}
use Rattle.frz_index.proofs.chart.words_of.Given as goal

abbrev pub invariant-loop-k : goal.invariant-loop-k
invariant-loop-k l = Words l.states l.k l.words
