use Rattle.frz_arena.proofs.Plies.NextPlies.{own_win_arm, own_hold_arm}
use Rattle.frz_arena.proofs.laws.codes.own_plies.Goals as goal

pub returns-clause-win : goal.returns-clause-win
returns-clause-win g c = own_win_arm

pub returns-clause-hold : goal.returns-clause-hold
returns-clause-hold g c = own_hold_arm
