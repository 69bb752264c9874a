use Rattle.frz_table.proofs.Files.{loaded_is_written}
use Rattle.frz_table.proofs.laws.loaded_and_written.Goals as goal

pub returns : goal.returns
returns c = loaded_is_written
