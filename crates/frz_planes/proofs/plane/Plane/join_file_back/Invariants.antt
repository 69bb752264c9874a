use Rattle.std.proofs.Common.{◌≡◌, ◌+◌, length, get_or, bit_and, bit_or}
use Rattle.frz_planes.specs.declared.masks.TheConstants.{BEFORE_FILE_H}
use Rattle.frz_planes.proofs.Shifts.{AreBetween}
use Rattle.frz_planes.proofs.plane.Plane.join_file_back.Given as goal

abbrev pub invariant-loop-i : goal.invariant-loop-i
invariant-loop-i l =
    AreBetween (λ k v. bit_or v (bit_and (get_or l.other-inside.0 (k + 1) 0) (get_or BEFORE_FILE_H k 0))) 0 l.i
    l.initial.self-inside.0 l.self-inside.0
    × (length l.self-inside.0 ≡ 64)
