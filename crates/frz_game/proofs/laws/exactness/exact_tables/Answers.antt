use Rattle.frz_game.proofs.DecidedExits.{exact_where_decided}
use Rattle.frz_game.proofs.ExactTables.{exact_wins, exact_outcomes, exact_where_drawn}
use Rattle.frz_game.proofs.laws.exactness.exact_tables.Goals as goal

pub returns-clause-wins : goal.returns-clause-wins
returns-clause-wins c = exact_wins

pub returns-clause-outcomes : goal.returns-clause-outcomes
returns-clause-outcomes c = exact_outcomes

pub returns-clause-decided : goal.returns-clause-decided
returns-clause-decided c = exact_where_decided

pub returns-clause-drawn : goal.returns-clause-drawn
returns-clause-drawn c = exact_where_drawn
