use Rattle.std.proofs.Common.{◌≤◌, ◌-◌}
use Rattle.frz_king_planes.proofs.JoinedAttacks.{IsJoined}
use Rattle.frz_king_planes.proofs.attack.join_attacks.Given as goal

abbrev pub invariant-loop-s : goal.invariant-loop-s
invariant-loop-s l = (l.n ≤ 64) × IsJoined l.squares l.m l.initial.pairs l.pairs l.n

abbrev pub decreases-loop-s : goal.decreases-loop-s
decreases-loop-s l = 64 - l.n
