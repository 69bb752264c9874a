use Rattle.frz_arena.proofs.Tables.StoredCodes.{stored_hold}
use Rattle.frz_arena.proofs.laws.tables.stored_holds.Goals as goal

pub returns : goal.returns
returns g c = stored_hold
