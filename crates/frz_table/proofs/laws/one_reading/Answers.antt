use Rattle.frz_table.proofs.Files.{one_reading}
use Rattle.frz_table.proofs.laws.one_reading.Goals as goal

pub returns : goal.returns
returns c = one_reading
