use Rattle.frz_game.proofs.MenAlone.{exits_by_men}
use Rattle.frz_game.proofs.TextsByMen.{text_by_men, drawn_text}
use Rattle.frz_graph.specs.Books.{value_by}
use Rattle.frz_game.proofs.laws.men.texts_by_men.Goals as goal

pub returns-clause-exits : goal.returns-clause-exits
returns-clause-exits c rules h = exits_by_men rules (value_by rules) (text_by_men rules h)

pub returns-clause-drawn : goal.returns-clause-drawn
returns-clause-drawn c = drawn_text
