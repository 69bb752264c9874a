use Rattle.frz_report.proofs.Censuses.{any_firsts, firsts_distinct}
use Rattle.frz_report.proofs.Sums.{census_sum}
use Rattle.frz_report.proofs.laws.classes_in_words.Goals as goal

pub returns-clause-exact : goal.returns-clause-exact
returns-clause-exact c exits class = any_firsts class exits

pub returns-clause-once : goal.returns-clause-once
returns-clause-once c exits = firsts_distinct exits

pub returns-clause-sum : goal.returns-clause-sum
returns-clause-sum c exits = census_sum exits
