use Rattle.frz_fide.proofs.Checking.{attacked_means, means_attacked}
use Rattle.frz_fide.proofs.laws.attack_in_words.Goals as goal

pub returns : goal.returns
returns c p s by = (attacked_means p s by, means_attacked p s by)
