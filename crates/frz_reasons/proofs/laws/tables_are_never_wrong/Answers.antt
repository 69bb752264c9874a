use Rattle.frz_sets.specs.Sets.{size_of}
use Rattle.frz_game.specs.Games.{graph_by}
use Rattle.frz_game.proofs.Lemmas.{table_exact}
use Rattle.frz_reasons.proofs.Lengths.{each_agrees, failure_bounds_plies, right_entries_end_right}
use Rattle.frz_reasons.proofs.laws.tables_are_never_wrong.Goals as goal

pub returns-clause-length : goal.returns-clause-length
returns-clause-length c = λ rules value side codes start n arms reason code way is_right.
    (failure_bounds_plies (graph_by rules value) side codes
    (λ k f agrees. c.failures_are_spoiled.ensures (graph_by rules value)
    (c.numbered.ensures.graph_lawful rules value) side codes k f agrees)
    start n arms reason code way).1 is_right

pub returns-clause-few : goal.returns-clause-few
returns-clause-few c = λ rules value side codes start n arms reason code way.
    (failure_bounds_plies (graph_by rules value) side codes
    (λ k f agrees. c.failures_are_spoiled.ensures (graph_by rules value)
    (c.numbered.ensures.graph_lawful rules value) side codes k f agrees)
    start n arms reason code way).0

pub returns-clause-right : goal.returns-clause-right
returns-clause-right c = λ rules value side codes table start arms reason way.
    right_entries_end_right (graph_by rules value) side codes
    (each_agrees (graph_by rules value) side codes (size_of rules.groups)
    (c.numbered.ensures.graph_numbered rules value) (table_exact rules value side codes table))
    start arms reason way
