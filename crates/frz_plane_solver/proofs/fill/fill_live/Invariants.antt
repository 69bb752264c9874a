use Rattle.std.proofs.Common.{◌≡◌, ◌<◌, ℕ}
use Rattle.frz_arena.specs.declared.node.Node.TheVariants.{Broken}
use Rattle.frz_plane_game.specs.Spots.{HasNumbers, plane_at}
use Rattle.frz_plane_solver.proofs.fill.fill_live.Given as goal

abbrev pub invariant-loop-c : goal.invariant-loop-c
invariant-loop-c g l = (k : ℕ) → k < l.c →
    HasNumbers (g.G.PlaneGame.spots l.game) k (plane_at l.planes k) (λ i. (g.G.PlaneGame.arena l.game).node i ≡ Broken → ⊥)
