use Rattle.std.proofs.Common.{◌≡◌, ◌<◌, ℕ, false}
use Rattle.frz_planes.specs.Planes.{has_pair}
use Rattle.frz_plane_game.specs.Spots.{plane_at}
use Rattle.frz_plane_solver.specs.Marks.{marked_planes}
use Rattle.frz_plane_solver.proofs.marked.MarkedPlanes.has_any.Given as goal

abbrev pub invariant-loop-c : goal.invariant-loop-c
invariant-loop-c l = (k a b : ℕ) → k < l.c → a < 64 → b < 64 →
    has_pair (plane_at (marked_planes l.self) k) a b ≡ false
