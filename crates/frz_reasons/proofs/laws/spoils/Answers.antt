use Rattle.frz_game.specs.Games.{graph_by}
use Rattle.frz_reasons.proofs.Lengths.{failing_way_is_spoiled}
use Rattle.frz_reasons.proofs.laws.spoils.Goals as goal

pub returns : goal.returns
returns c = λ rules value side codes start arms reason failing way.
    failing_way_is_spoiled (graph_by rules value) side codes
    (λ k f agrees. c.failures_are_spoiled.ensures (graph_by rules value)
    (c.numbered.ensures.graph_lawful rules value) side codes k f agrees)
    start arms reason (λ v bad. bad) failing way
