use Rattle.frz_atlas_top.proofs.Answering.{lawful_of}
use Rattle.frz_atlas_top.proofs.laws.one_answer.Goals as goal

pub returns : goal.returns
returns c = λ words.
    lawful_of c.one_ask_answer.ensures c.one_line_answer.ensures c.one_play_answer.ensures
    c.why_lawful.ensures words
