use Rattle.frz_index.proofs.Charting.{Charted}
use Rattle.frz_index.proofs.plan.charts_of.Given as goal

abbrev pub invariant-loop-group : goal.invariant-loop-group
invariant-loop-group l = Charted l.groups l.group-index l.charts.items
