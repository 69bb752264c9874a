use Rattle.frz_fide.proofs.CountsKept.{counts_fall}
use Rattle.frz_fide.proofs.MinorMates.{bare_by_counts, minor_by_counts}
use Rattle.frz_fide.proofs.laws.counted_men.Goals as goal

pub returns-clause-bare : goal.returns-clause-bare
returns-clause-bare c = bare_by_counts

pub returns-clause-minor : goal.returns-clause-minor
returns-clause-minor c = minor_by_counts

pub returns-clause-fall : goal.returns-clause-fall
returns-clause-fall c p m side k v step h none = counts_fall p m side k v step.to h none
