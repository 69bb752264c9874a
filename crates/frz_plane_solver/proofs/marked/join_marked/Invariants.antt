use Rattle.frz_plane_solver.specs.Marks.{marked_planes}
use Rattle.frz_plane_solver.proofs.Joining.{AreJoined}
use Rattle.frz_plane_solver.proofs.marked.join_marked.Given as goal

abbrev pub invariant-loop-c : goal.invariant-loop-c
invariant-loop-c l = AreJoined l.fn.planes (marked_planes l.more) l.c l.planes
