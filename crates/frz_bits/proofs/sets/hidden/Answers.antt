use Rattle.std.proofs.Common.{◌∙◌, ap}
use Rattle.frz_board.specs.Lines.{is_between}
use Rattle.frz_squares.specs.SquareSets.{set_of}
use Rattle.frz_bits.proofs.Tables.{hidden_at}
use Rattle.frz_bits.proofs.sets.hidden.Goals as goal

pub returns : goal.returns
returns c =
    c.joined.ensures
    ∙ hidden_at c.number.result c.number-2.result c.number.ensures.on_board
    c.number-2.ensures.on_board
    ∙ ap (λ a. set_of (λ b. is_between a c.number-2.result b)) c.number.ensures.number
    ∙ ap (λ m. set_of (λ b. is_between c.args.a m b)) c.number-2.ensures.number
