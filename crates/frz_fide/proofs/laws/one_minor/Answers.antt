use Rattle.frz_fide.proofs.Bare.{stays_minor}
use Rattle.frz_fide.proofs.MinorMates.{no_minor_mate}
use Rattle.frz_fide.proofs.laws.one_minor.Goals as goal

pub returns-clause-no_mate : goal.returns-clause-no_mate
returns-clause-no_mate c = no_minor_mate

pub returns-clause-stays : goal.returns-clause-stays
returns-clause-stays c = stays_minor
