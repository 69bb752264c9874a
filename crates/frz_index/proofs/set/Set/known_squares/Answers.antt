use Rattle.std.proofs.Common.{◌∙◌, ap, arith, slice_index}
use Rattle.frz_board.specs.Men.{cell_of_man}
use Rattle.frz_squares.specs.SquareSets.{set_of}
use Rattle.frz_index.specs.Kept.{is_known}
use Rattle.frz_index.proofs.set.Set.known_squares.Goals as goal

pub returns : goal.returns
returns c =
    let plan = c.self.inside.plan in
    let cell = cell_of_man c.args.man in
    ap (slice_index plan.known_squares) c.cell_of.ensures.cell
    ∙ c.self.invariant.known_are.known cell (omega arith)
    ∙ ap (λ gs. set_of (is_known gs cell)) c.self.view_is
