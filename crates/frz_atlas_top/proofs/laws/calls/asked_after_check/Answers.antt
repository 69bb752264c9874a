use Rattle.frz_atlas_top.proofs.CallsInTurn.{check_headline, queried_well, query_tells_bounds}
use Rattle.frz_atlas_top.proofs.laws.calls.asked_after_check.Goals as goal

pub returns-clause-query : goal.returns-clause-query
returns-clause-query c = λ table behind fen files a b checked asked.
    query_tells_bounds table behind files checked.bytes
    (check_headline table behind files a checked) fen b asked

pub returns-clause-query_status : goal.returns-clause-query_status
returns-clause-query_status c = λ table behind fen files input a b checked answer.
    queried_well table behind files checked.bytes (check_headline table behind files a checked) fen
    b input
    answer
