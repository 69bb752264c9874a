use Rattle.frz_index.proofs.Lemmas.{number_answer}
use Rattle.frz_game.proofs.game.number.Goals as goal

pub returns : goal.returns
returns c =
    number_answer c.args.set.now c.args.q.now c.number_beside.result c.number_beside.ensures.member
    c.number_beside.ensures.number
