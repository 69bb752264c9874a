use Rattle.frz_table.proofs.Files.{written_belongs, written_is_loaded}
use Rattle.frz_table.proofs.laws.written_and_loaded.Goals as goal

pub returns : goal.returns
returns c = record { file = written_belongs; codes = written_is_loaded }
