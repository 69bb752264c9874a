use Rattle.frz_planes.proofs.Pairs.{IsFrom}
use Rattle.frz_planes.proofs.plane.Plane.next_pair.Given as goal

abbrev pub invariant-loop-a : goal.invariant-loop-a
invariant-loop-a l = IsFrom l.self-inside.0 l.n l.a l.from
