use Rattle.frz_game.specs.Games.{graph_by}
use Rattle.frz_reasons.proofs.OneWay.{one_way, way_there}
use Rattle.frz_reasons.proofs.laws.one_failing_way.Goals as goal

pub returns-clause-there : goal.returns-clause-there
returns-clause-there c = λ rules value side codes start failing.
    let way = way_there (graph_by rules value) side codes
    (λ n f agrees. c.failures_are_spoiled.ensures (graph_by rules value)
    (c.numbered.ensures.graph_lawful rules value) side codes n f agrees) start failing in
    (way.arms, way.reason, way.way)

pub returns-clause-one : goal.returns-clause-one
returns-clause-one c = λ rules value side codes start arms others reason other w v.
    one_way (graph_by rules value) side codes start arms others reason other w v
