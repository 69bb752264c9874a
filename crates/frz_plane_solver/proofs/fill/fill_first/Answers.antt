use Rattle.std.proofs.Common.{ℕ, List, arith}
use Rattle.frz_plane_game.specs.Spots.{HasNumbers}
use Rattle.frz_plane_solver.specs.Decided.{Decided}
use Rattle.frz_plane_solver.proofs.Filling.{filled_more}
use Rattle.frz_plane_solver.proofs.fill.fill_first.Goals as goal

pub loop-c-preserved : goal.loop-c-preserved
loop-c-preserved g c =
    let arena = g.G.PlaneGame.arena c.args.game.now in
    let spots = g.G.PlaneGame.spots c.args.game.now in
    filled_more (λ (k : ℕ) (plane : List ℕ). HasNumbers spots k plane (Decided arena c.args.side c.args.win 0))
    c.loop-c.planes c.loop-c.c c.decided_first.result (omega arith) c.loop-c.invariant
    c.decided_first.ensures

pub returns : goal.returns
returns g c k l = c.loop-c.invariant k (omega arith)
