use Rattle.frz_arena.proofs.LocalCodes.Witnessed.{own_win_is, own_failure_is, own_hold_is, own_none_is}
use Rattle.frz_arena.proofs.laws.local.own_codes.Goals as goal

pub returns-clause-win : goal.returns-clause-win
returns-clause-win g c = own_win_is

pub returns-clause-failure : goal.returns-clause-failure
returns-clause-failure g c = own_failure_is

pub returns-clause-hold : goal.returns-clause-hold
returns-clause-hold g c = own_hold_is

pub returns-clause-none : goal.returns-clause-none
returns-clause-none g c = own_none_is
