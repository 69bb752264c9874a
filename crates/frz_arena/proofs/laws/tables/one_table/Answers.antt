use Rattle.frz_arena.proofs.Tables.OneTable as lemma
use Rattle.frz_arena.proofs.Tables.OneTable.{exact_is_table, table_is_exact, plies_small}
use Rattle.frz_arena.proofs.Tables.TablesExist.{table_exists}
use Rattle.frz_arena.proofs.laws.tables.one_table.Goals as goal

pub returns-clause-table : goal.returns-clause-table
returns-clause-table g c = exact_is_table

pub returns-clause-exact : goal.returns-clause-exact
returns-clause-exact g c = table_is_exact

pub returns-clause-there : goal.returns-clause-there
returns-clause-there g c = table_exists

pub returns-clause-one : goal.returns-clause-one
returns-clause-one g c = lemma.one_table

pub returns-clause-plies : goal.returns-clause-plies
returns-clause-plies g c numbers arena numbering law side most lags codes table =
    plies_small numbers arena numbering law side most lags codes
    (table_is_exact numbers arena numbering law side codes table)
