use Rattle.frz_report.proofs.Squeezing.{squeezes_exact, squeezes_increasing}
use Rattle.frz_report.proofs.laws.squeezes_in_words.Goals as goal

pub returns-clause-exact : goal.returns-clause-exact
returns-clause-exact c = squeezes_exact

pub returns-clause-increasing : goal.returns-clause-increasing
returns-clause-increasing c = squeezes_increasing
