use Rattle.frz_fide.proofs.Bare.{no_bare_check, stays_bare}
use Rattle.frz_fide.proofs.laws.bare_kings.Goals as goal

pub returns-clause-no_check : goal.returns-clause-no_check
returns-clause-no_check c = no_bare_check

pub returns-clause-stays : goal.returns-clause-stays
returns-clause-stays c = stays_bare
