use Rattle.frz_plane_solver.specs.Decided.{ArePut}
use Rattle.frz_plane_solver.specs.Marks.{marked_planes}
use Rattle.frz_plane_solver.proofs.Putting.{IsInBefore}
use Rattle.frz_plane_solver.proofs.settle.settle_all.Given as goal

abbrev pub invariant-loop-c : goal.invariant-loop-c
invariant-loop-c g l = ArePut (IsInBefore (g.G.PlaneGame.spots l.game) (marked_planes l.marked) l.c) l.code
    l.fn.codes l.codes
