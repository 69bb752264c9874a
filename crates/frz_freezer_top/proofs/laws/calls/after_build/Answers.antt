use Rattle.frz_freezer_top.proofs.CallsAfterWriting.{checked_after, queried_after, solved_after}
use Rattle.frz_freezer_top.proofs.laws.calls.after_build.Goals as goal

pub returns-clause-check : goal.returns-clause-check
returns-clause-check c = λ before later rules table files input a b built checked.
    checked_after c.one_answer.ensures c.built_is_accepted.ensures before rules table files a built
    later input b checked

pub returns-clause-query : goal.returns-clause-query
returns-clause-query c = λ before later rules table fen files a b built asked.
    queried_after c.one_answer.ensures c.built_is_accepted.ensures before rules table files a built
    later fen b asked

pub returns-clause-solved : goal.returns-clause-solved
returns-clause-solved c = λ before later rules table fen files a b built asked.
    solved_after c.one_answer.ensures c.built_is_accepted.ensures before rules table files a built
    later fen b asked
