use Rattle.frz_fide.proofs.InWords.{relation_tests, tests_relation}
use Rattle.frz_fide.proofs.laws.moves_in_words.Goals as goal

pub returns : goal.returns
returns c p m q v = (relation_tests p m q v, tests_relation p m q v)
