use Rattle.std.proofs.Common.{◌≤◌, ◌-◌}
use Rattle.frz_plane_solver.specs.Decided.{ArePut}
use Rattle.frz_plane_solver.proofs.Putting.{IsBefore}
use Rattle.frz_plane_solver.proofs.settle.settle.Given as goal

abbrev pub invariant-loop-a : goal.invariant-loop-a
invariant-loop-a g l = record {
  put : ArePut (IsBefore (g.G.PlaneGame.spots l.game) l.configuration l.plane l.from) l.code
      l.fn.codes l.codes;
  few : l.from ≤ 4096;
}

abbrev pub decreases-loop-a : goal.decreases-loop-a
decreases-loop-a g l = 4096 - l.from
