use Rattle.frz_atlas_top.proofs.CallsAfterBuilding.{checked_after, queried_after, solved_after}
use Rattle.frz_atlas_top.proofs.laws.calls.after_build.Goals as goal

pub returns-clause-check : goal.returns-clause-check
returns-clause-check c = λ rules table behind files input a b built checked.
    checked_after rules table behind files a built input b checked

pub returns-clause-query : goal.returns-clause-query
returns-clause-query c = λ rules table behind fen files a b built asked.
    queried_after rules table behind files a built fen b asked

pub returns-clause-solved : goal.returns-clause-solved
returns-clause-solved c = λ rules table behind fen files a b built asked.
    solved_after rules table behind files a built fen b asked
