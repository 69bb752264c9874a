use Rattle.frz_freezer_top.proofs.CallsAfterWriting.{chain_checked_after, chain_queried_after}
use Rattle.frz_freezer_top.proofs.laws.calls.after_chain.Goals as goal

pub returns-clause-check : goal.returns-clause-check
returns-clause-check c = λ before later rules back table files input a b chained checked.
    chain_checked_after c.one_answer.ensures c.chained_is_accepted.ensures before rules back table
    files a chained later input b checked

pub returns-clause-query : goal.returns-clause-query
returns-clause-query c = λ before later rules back table fen files a b chained asked.
    chain_queried_after c.one_answer.ensures c.chained_is_accepted.ensures before rules back table
    files a chained later fen b asked
