use Rattle.frz_freezer_top.proofs.CallsInTurn.{check_headline, lined, lined_well}
use Rattle.frz_freezer_top.proofs.laws.calls.line_after_check.Goals as goal

pub returns-clause-bound : goal.returns-clause-bound
returns-clause-bound c = λ before later table fen side files a b checked stays played.
    lined c.one_answer.ensures later table files checked.bytes
    (check_headline c.one_answer.ensures before table files a checked) b stays fen side played

pub returns-clause-status : goal.returns-clause-status
returns-clause-status c = λ before later table fen side files input a b checked stays answer.
    lined_well c.one_answer.ensures later table files checked.bytes
    (check_headline c.one_answer.ensures before table files a checked) b stays fen side input answer
