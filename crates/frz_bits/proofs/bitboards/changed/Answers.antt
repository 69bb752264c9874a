use Rattle.std.proofs.Common.{◌∙◌, ap, not, slice_index}
use Rattle.std.specs.Prelude.{◌==◌}
use Rattle.frz_board.specs.Boards.{Board}
use Rattle.frz_squares.proofs.Lemmas.{set_of-from}
use Rattle.frz_bits.proofs.bitboards.changed.Goals as goal

pub returns : goal.returns
returns c =
    set_of-from c.cells_unlike.result
    (λ s. not (slice_index c.args.p.now.cells s == slice_index c.args.q.now.cells s))
    c.cells_unlike.type_inv
    (λ k l. c.cells_unlike.ensures k l
    ∙ ap (λ cells. not (slice_index cells k == slice_index c.cells-2.result k))
    (c.cells.ensures.cells ∙ ap (λ (b : Board). b.cells) c.p.view_is)
    ∙ ap (λ cells. not (slice_index c.args.p.now.cells k == slice_index cells k))
    (c.cells-2.ensures.cells ∙ ap (λ (b : Board). b.cells) c.q.view_is))
