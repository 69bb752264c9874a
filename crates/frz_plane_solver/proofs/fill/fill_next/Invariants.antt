use Rattle.std.proofs.Common.{◌<◌, ◌+◌, ℕ}
use Rattle.frz_plane_game.specs.Spots.{HasNumbers, plane_at}
use Rattle.frz_plane_solver.specs.Decided.{DecidedAt}
use Rattle.frz_plane_solver.specs.Marks.{AreFor, marked_planes}
use Rattle.frz_plane_solver.proofs.fill.fill_next.Given as goal

abbrev pub invariant-loop-c : goal.invariant-loop-c
invariant-loop-c g l = record {
  filled : (k : ℕ) → k < l.c → HasNumbers (g.G.PlaneGame.spots l.game) k
      (plane_at (marked_planes l.more) k)
      (DecidedAt (g.G.PlaneGame.arena l.game) l.side l.win (l.plies + 1));
  size : AreFor (g.G.PlaneGame.spots l.game).configurations l.more;
}
