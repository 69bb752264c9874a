use Rattle.frz_game.proofs.Graph as lemma
use Rattle.frz_game.proofs.laws.numbers.numbered.Goals as goal

pub returns-clause-lawful : goal.returns-clause-lawful
returns-clause-lawful c = lemma.lawful

pub returns-clause-numbering : goal.returns-clause-numbering
returns-clause-numbering c = lemma.numbering

pub returns-clause-graph_lawful : goal.returns-clause-graph_lawful
returns-clause-graph_lawful c = lemma.graph_lawful

pub returns-clause-graph_numbered : goal.returns-clause-graph_numbered
returns-clause-graph_numbered c = lemma.graph_numbered

pub returns-clause-lags : goal.returns-clause-lags
returns-clause-lags c = lemma.lags

pub returns-clause-finite : goal.returns-clause-finite
returns-clause-finite c = lemma.finite
