use Rattle.std.proofs.Common.{◌≡◌, ◌+◌, length, get_or, bit_or}
use Rattle.frz_planes.proofs.Shifts.{AreBetween}
use Rattle.frz_planes.proofs.plane.Plane.join_rank_back.Given as goal

abbrev pub invariant-loop-i : goal.invariant-loop-i
invariant-loop-i l =
    AreBetween (λ k v. bit_or v (get_or l.other-inside.0 (k + 8) 0)) 0 l.i
    l.initial.self-inside.0 l.self-inside.0
    × (length l.self-inside.0 ≡ 64)
