use Rattle.std.proofs.Common.{◌∙◌, ap, not}
use Rattle.frz_board.specs.Boards.{Board, is_empty}
use Rattle.frz_squares.specs.SquareSets.{set_of}
use Rattle.frz_bits.proofs.Men.{occupied_is}
use Rattle.frz_bits.proofs.bitboards.Bitboards.occupied.Goals as goal

pub returns : goal.returns
returns c =
    occupied_is c.self.inside.position c.self.inside.white c.self.inside.black c.self.invariant
    ∙ ap (λ (p : Board). set_of (λ s. not (is_empty p s))) c.self.view_is
