use Rattle.frz_fide.proofs.Checking.{check_means, means_check}
use Rattle.frz_fide.proofs.laws.check_in_words.Goals as goal

pub returns : goal.returns
returns c p side = (check_means p side, means_check p side)
