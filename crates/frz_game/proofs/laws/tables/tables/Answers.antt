use Rattle.frz_game.proofs.Bounded.{exact_table, table_exact, table_there, table_one, plies_few, stored_bound}
use Rattle.frz_game.proofs.laws.tables.tables.Goals as goal

pub returns-clause-table : goal.returns-clause-table
returns-clause-table c = exact_table

pub returns-clause-exact : goal.returns-clause-exact
returns-clause-exact c = table_exact

pub returns-clause-there : goal.returns-clause-there
returns-clause-there c = table_there

pub returns-clause-one : goal.returns-clause-one
returns-clause-one c = table_one

pub returns-clause-plies : goal.returns-clause-plies
returns-clause-plies c = plies_few

pub returns-clause-bound : goal.returns-clause-bound
returns-clause-bound c = stored_bound
