use Rattle.std.proofs.Common.{◌≤◌, ◌+◌, ◌-◌}
use Rattle.frz_plane_solver.specs.Marks.{AreFor}
use Rattle.frz_plane_solver.specs.Walks.{IsSolvedTo}
use Rattle.frz_plane_solver.proofs.passes.go_on.Given as goal

-- the planes and codes tell so many plies, and the plies are few
abbrev pub invariant-plies : goal.invariant-plies
invariant-plies g l = record {
  solved : IsSolvedTo (g.G.PlaneGame.arena l.game) (g.G.PlaneGame.spots l.game) l.side l.plies
      l.won l.lost l.codes;
  room : AreFor (g.G.PlaneGame.spots l.game).configurations l.more;
  few : l.plies ≤ (g.G.PlaneGame.spots l.game).numbers + l.lag;
}

abbrev pub decreases-plies : goal.decreases-plies
decreases-plies g l = ((g.G.PlaneGame.spots l.game).numbers + l.lag + 1) - l.plies
