use Rattle.frz_planes.proofs.Pairs.{IsJoin}
use Rattle.frz_planes.proofs.plane.Plane.is_empty.Given as goal

abbrev pub invariant-loop-row : goal.invariant-loop-row
invariant-loop-row l = IsJoin l.row-items l.row-index l.all
