use Rattle.std.proofs.Common.{◌∙◌, ap, sym}
use Rattle.frz_board.specs.Attacks.{is_attacked}
use Rattle.frz_board.specs.Men.{other_of}
use Rattle.frz_squares.specs.SquareSets.{set_of}
use Rattle.frz_fide.proofs.exposing.barred.Goals as goal

pub returns-then-is_king : goal.returns-then-is_king
returns-then-is_king c _ =
    c.attacked.ensures
    ∙ ap (λ d. set_of (λ s. is_attacked c.args.bare.now s d))
    (c.other.ensures.other ∙ ap other_of c.turn.ensures)

pub returns-else-is_king : goal.returns-else-is_king
returns-else-is_king c king =
    let off = sym c.is_king.ensures ∙ c.if-is_king.false in absurd cc
