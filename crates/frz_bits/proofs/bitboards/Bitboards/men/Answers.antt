use Rattle.std.proofs.Common.{◌∙◌, ap, slice_index}
use Rattle.std.specs.Prelude.{◌==◌}
use Rattle.frz_board.specs.Boards.{Board, has}
use Rattle.frz_board.specs.Men.{cell_of_man}
use Rattle.frz_squares.proofs.Lemmas.{set_of-from}
use Rattle.frz_bits.proofs.bitboards.Bitboards.men.Goals as goal

pub returns : goal.returns
returns c =
    set_of-from c.cells_equal.result (λ s. has c.args.self.now c.args.man.colour c.args.man.kind s)
    c.cells_equal.type_inv
    (λ k l. c.cells_equal.ensures k l
    ∙ ap (λ x. slice_index c.cells.result k == x) c.cell_of.ensures.cell
    ∙ ap (λ cells. slice_index cells k == cell_of_man c.args.man)
    (c.cells.ensures.cells ∙ ap (λ (p : Board). p.cells) c.self.view_is))
