use Rattle.frz_freezer_top.proofs.Answering.{lawful_of}
use Rattle.frz_freezer_top.proofs.laws.one_answer.Goals as goal

pub returns : goal.returns
returns c = λ later words.
    lawful_of c.one_line_answer.ensures c.one_play_answer.ensures later words
