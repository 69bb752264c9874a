use Rattle.frz_arena.proofs.Tables.StoredCodes.{stored_win, stored_mate, stored_mate_in}
use Rattle.frz_arena.proofs.laws.tables.stored_wins.Goals as goal

pub returns-clause-goals : goal.returns-clause-goals
returns-clause-goals g c = stored_win

pub returns-clause-mates : goal.returns-clause-mates
returns-clause-mates g c = stored_mate

pub returns-clause-within : goal.returns-clause-within
returns-clause-within g c = stored_mate_in
