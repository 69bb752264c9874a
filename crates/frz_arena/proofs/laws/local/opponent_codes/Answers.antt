use Rattle.frz_arena.proofs.LocalCodes.Witnessed.{other_failure_is, other_win_is, other_hold_is}
use Rattle.frz_arena.proofs.laws.local.opponent_codes.Goals as goal

pub returns-clause-failure : goal.returns-clause-failure
returns-clause-failure g c = other_failure_is

pub returns-clause-win : goal.returns-clause-win
returns-clause-win g c = other_win_is

pub returns-clause-hold : goal.returns-clause-hold
returns-clause-hold g c = other_hold_is
