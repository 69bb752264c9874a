use Rattle.frz_premises.proofs.TrueLines.{true_over, true_where}
use Rattle.frz_premises.proofs.laws.true_where_belief_holds.Goals as goal

pub returns-clause-lines : goal.returns-clause-lines
returns-clause-lines c = true_where

pub returns-clause-tables : goal.returns-clause-tables
returns-clause-tables c = true_over
