use Rattle.frz_freezer_top.proofs.CallsInTurn.{check_headline, played_well, played}
use Rattle.frz_freezer_top.proofs.laws.calls.play_after_check.Goals as goal

pub returns-clause-bound : goal.returns-clause-bound
returns-clause-bound c = λ before later table fen side files a b checked stays session.
    played c.one_answer.ensures later table files checked.bytes
    (check_headline c.one_answer.ensures before table files a checked) b stays fen side session

pub returns-clause-status : goal.returns-clause-status
returns-clause-status c = λ before later table fen side files input a b checked stays answer.
    played_well c.one_answer.ensures later table files checked.bytes
    (check_headline c.one_answer.ensures before table files a checked) b stays fen side input answer
