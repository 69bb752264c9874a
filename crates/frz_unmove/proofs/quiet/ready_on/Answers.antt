use Rattle.std.proofs.Common.{sym, ap, ◌∙◌}
use Rattle.frz_bits.specs.Words.{IsNext}
use Rattle.frz_board.specs.declared.man.Kind.TheVariants.{King}
use Rattle.frz_board.specs.Attacks.{is_in_check}
use Rattle.frz_board.specs.Boards.{has}
use Rattle.frz_squares.specs.SquareSets.{has_square}
use Rattle.frz_squares.proofs.Lemmas.{has-set_of}
use Rattle.frz_unmove.proofs.quiet.ready_on.Goals as goal

pub returns : goal.returns
returns c =
    let q = c.args.q.now in
    let next : IsNext c.men.result 0 c.in_ok-king.king = c.in_ok-king.ensures in
    let k = c.in_ok-king.king in
    record {
      there = c.requires.piece;
      bare_is = c.requires.bare;
      safe = ap (is_in_check c.args.bare.now) (sym c.turn.ensures) ∙ sym c.is_in_check.ensures
          ∙ c.if-is_in_check.false;
      on_board = next.on_board;
      king_is = ap (λ d. has q d King k) (sym c.turn-colour.ensures)
          ∙ sym (has-set_of (λ s. has q c.turn-colour.result King s) k next.on_board)
          ∙ ap (λ w. has_square w k) (sym c.men.ensures) ∙ next.there;
    }
