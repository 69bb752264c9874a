use Rattle.frz_backs.proofs.ExactOver.{outcomes_over}
use Rattle.frz_backs.proofs.laws.exact_over.outcomes_over_tables.Goals as goal

pub returns : goal.returns
returns c = outcomes_over
