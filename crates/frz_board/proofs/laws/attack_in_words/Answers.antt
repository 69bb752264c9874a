use Rattle.frz_board.proofs.AttackInWords.{test_means, means_test}
use Rattle.frz_board.proofs.laws.attack_in_words.Goals as goal

pub returns : goal.returns
returns c p a b = (test_means p a b, means_test p a b)
