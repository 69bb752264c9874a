use Rattle.frz_arena.proofs.Ways.Follows.{starts_at, follow, exits_last, win_follows, hold_follows}
use Rattle.frz_arena.proofs.laws.ways.plies_follow.Goals as goal

pub returns-clause-first : goal.returns-clause-first
returns-clause-first g c player = starts_at player 0

pub returns-clause-next : goal.returns-clause-next
returns-clause-next g c player = follow player 0

pub returns-clause-exit : goal.returns-clause-exit
returns-clause-exit g c player = exits_last player 0

pub returns-clause-win : goal.returns-clause-win
returns-clause-win g c = win_follows

pub returns-clause-hold : goal.returns-clause-hold
returns-clause-hold g c = hold_follows
