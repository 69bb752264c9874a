use Rattle.frz_combinations.proofs.Rows.{row_first}
use Rattle.frz_combinations.proofs.pascal.first_row.Goals as goal

pub returns : goal.returns
returns c = row_first
