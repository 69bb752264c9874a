use Rattle.frz_freezer_top.proofs.CallsInTurn.{chain_headline, chain_queried}
use Rattle.frz_freezer_top.proofs.laws.calls.asked_after_chaincheck.Goals as goal

pub returns : goal.returns
returns c = λ before later table back fen files a b checked asked.
    chain_queried c.one_answer.ensures later table back fen files b
    (chain_headline c.one_answer.ensures before table back files a checked) asked
