use Rattle.std.proofs.Common.{sym, subst}
use Rattle.frz_board.specs.Boards.{Board}
use Rattle.frz_bits.specs.Sides.{HasSides}
use Rattle.frz_bits.proofs.bitboards.Bitboards.hand_over.Goals as goal

pub invariant_of-result : goal.invariant_of-result
invariant_of-result c =
    subst (λ (b : Board). HasSides b c.self.inside.white c.self.inside.black)
    (sym c.hand_over.ensures)
    (record {
      fits = c.self.invariant.fits;
      of_white = c.self.invariant.of_white;
      of_black = c.self.invariant.of_black;
    })
