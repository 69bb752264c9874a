use Rattle.frz_freezer_top.proofs.CallsInTurn.{check_headline, queried, queried_well, reported, reported_well}
use Rattle.frz_freezer_top.proofs.laws.calls.asked_after_check.Goals as goal

pub returns-clause-query : goal.returns-clause-query
returns-clause-query c = λ before later table fen files a b checked asked.
    queried c.one_answer.ensures later table files checked.bytes
    (check_headline c.one_answer.ensures before table files a checked) b fen asked

pub returns-clause-report : goal.returns-clause-report
returns-clause-report c = λ before later table files a b checked asked.
    reported c.one_answer.ensures later table files checked.bytes
    (check_headline c.one_answer.ensures before table files a checked) b
    c.squeezes_are_zugzwangs.ensures.white c.squeezes_are_zugzwangs.ensures.black asked

pub returns-clause-query_status : goal.returns-clause-query_status
returns-clause-query_status c = λ before later table fen files input a b checked answer.
    queried_well c.one_answer.ensures later table files checked.bytes
    (check_headline c.one_answer.ensures before table files a checked) b fen input answer

pub returns-clause-report_status : goal.returns-clause-report_status
returns-clause-report_status c = λ before later table files input a b checked answer.
    reported_well c.one_answer.ensures later table files checked.bytes
    (check_headline c.one_answer.ensures before table files a checked) b input answer
