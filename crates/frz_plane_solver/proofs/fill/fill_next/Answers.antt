use Rattle.std.proofs.Common.{◌+◌, ℕ, List, arith}
use Rattle.frz_plane_game.specs.Spots.{HasNumbers}
use Rattle.frz_plane_solver.specs.Decided.{DecidedAt}
use Rattle.frz_plane_solver.specs.Marks.{marked_planes}
use Rattle.frz_plane_solver.proofs.Filling.{filled_on}
use Rattle.frz_plane_solver.proofs.fill.fill_next.Goals as goal

pub loop-c-preserved : goal.loop-c-preserved
loop-c-preserved g c =
    let arena = g.G.PlaneGame.arena c.args.game.now in
    let spots = g.G.PlaneGame.spots c.args.game.now in
    record {
      filled = filled_on (λ (k : ℕ) (plane : List ℕ). HasNumbers spots k plane
          (DecidedAt arena c.args.side c.args.win (c.args.plies + 1)))
          (marked_planes c.loop-c.more) (marked_planes c.fill_at.new.more) c.loop-c.c
          c.fill_at.ensures.others c.loop-c.invariant.filled c.fill_at.ensures.numbers;
      size = c.fill_at.ensures.size;
    }

pub returns-clause-numbers : goal.returns-clause-numbers
returns-clause-numbers g c k l = c.loop-c.invariant.filled k (omega arith)
