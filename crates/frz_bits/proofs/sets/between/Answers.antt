use Rattle.std.proofs.Common.{◌∙◌, ap}
use Rattle.frz_board.specs.Lines.{is_between}
use Rattle.frz_squares.specs.SquareSets.{set_of}
use Rattle.frz_bits.proofs.Tables.{between_at}
use Rattle.frz_bits.proofs.sets.between.Goals as goal

pub returns : goal.returns
returns c =
    c.joined.ensures
    ∙ between_at c.number.result c.number-2.result c.number.ensures.on_board
    c.number-2.ensures.on_board
    ∙ ap (λ a. set_of (λ s. is_between a s c.number-2.result)) c.number.ensures.number
    ∙ ap (λ b. set_of (λ s. is_between c.args.a s b)) c.number-2.ensures.number
