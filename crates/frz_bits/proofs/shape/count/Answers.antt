use Rattle.std.proofs.Common.{ap, count_ones, length, sym, ◌∙◌}
use Rattle.frz_board.specs.Boards.{Board}
use Rattle.frz_bits.proofs.CountedBits.{men_counted}
use Rattle.frz_bits.proofs.shape.count.Goals as goal

pub returns : goal.returns
returns c =
    ap count_ones c.men.ensures
    ∙ men_counted c.args.p.now c.args.colour c.args.kind
    (ap (λ (p : Board). length p.cells) (sym c.as_position.ensures)
    ∙ c.turn-turn.ensures.fits.size)
