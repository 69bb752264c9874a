use Rattle.frz_report.proofs.Mutual.{exactly_mutual}
use Rattle.frz_report.proofs.laws.zugzwangs.squeezes_are_mutual.Goals as goal

pub returns : goal.returns
returns c = exactly_mutual
