use Rattle.frz_arena.proofs.Ways.SessionsEnd.{session_ends}
use Rattle.frz_arena.proofs.laws.sessions.sessions_end.Goals as goal

pub returns : goal.returns
returns g c = session_ends
