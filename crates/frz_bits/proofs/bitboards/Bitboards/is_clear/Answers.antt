use Rattle.std.proofs.Common.{◌∙◌, ap, bit_and}
use Rattle.std.specs.Prelude.{◌==◌}
use Rattle.frz_board.specs.Lines.{is_between}
use Rattle.frz_squares.specs.SquareSets.{set_of}
use Rattle.frz_bits.proofs.Men.{clear_is}
use Rattle.frz_bits.proofs.bitboards.Bitboards.is_clear.Goals as goal

pub returns : goal.returns
returns c =
    ap (λ w. bit_and w c.occupied.result == 0) c.between.ensures
    ∙ ap (λ w. bit_and (set_of (λ s. is_between c.args.a s c.args.b)) w == 0) c.occupied.ensures
    ∙ clear_is c.args.self.now c.args.a c.args.b
