use Rattle.frz_table.proofs.Belonging.{cut_refused}
use Rattle.frz_table.proofs.laws.cut_files.Goals as goal

pub returns : goal.returns
returns c = cut_refused
