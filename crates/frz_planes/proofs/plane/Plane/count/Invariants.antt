use Rattle.std.proofs.Common.{◌≡◌, ◌≤◌, ◌*◌}
use Rattle.frz_planes.proofs.Pairs.{count_below}
use Rattle.frz_planes.proofs.plane.Plane.count.Given as goal

abbrev pub invariant-loop-row : goal.invariant-loop-row
invariant-loop-row l =
    (l.count ≡ count_below l.row-items l.row-index) × (l.count ≤ 64 * l.row-index)
