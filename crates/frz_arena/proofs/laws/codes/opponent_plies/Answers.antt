use Rattle.frz_arena.proofs.Plies.NextPlies.{other_win_arms, other_win_arm, other_hold_arms, other_hold_arm}
use Rattle.frz_arena.proofs.laws.codes.opponent_plies.Goals as goal

pub returns-clause-each_win : goal.returns-clause-each_win
returns-clause-each_win g c = other_win_arms

pub returns-clause-some_win : goal.returns-clause-some_win
returns-clause-some_win g c = other_win_arm

pub returns-clause-each_hold : goal.returns-clause-each_hold
returns-clause-each_hold g c = other_hold_arms

pub returns-clause-some_hold : goal.returns-clause-some_hold
returns-clause-some_hold g c = other_hold_arm
