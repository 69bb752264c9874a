use Rattle.std.proofs.Common.{ap, count_ones, length, sym, ◌∙◌}
use Rattle.frz_board.specs.Boards.{Board}
use Rattle.frz_bits.proofs.CountedBits.{side_counted}
use Rattle.frz_bits.proofs.shape.count_side.Goals as goal

pub returns : goal.returns
returns c =
    ap count_ones c.side.ensures
    ∙ side_counted c.args.p.now c.args.colour
    (ap (λ (p : Board). length p.cells) (sym c.as_position.ensures)
    ∙ c.turn-turn.ensures.fits.size)
