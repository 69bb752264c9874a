use Rattle.std.proofs.Common.{◌∙◌, ◌&&◌, ap}
use Rattle.frz_board.specs.declared.man.Colour.TheVariants.{White}
use Rattle.frz_board.specs.declared.man.Man.{Man}
use Rattle.frz_board.specs.Men.{cell_of_man}
use Rattle.frz_squares.specs.SquareSets.{has_square}
use Rattle.frz_squares.proofs.Lemmas.{has-set_of}
use Rattle.frz_index.specs.Kept.{is_known}
use Rattle.frz_king_planes.specs.Kings.{king_cell}
use Rattle.frz_kingless.proofs.finding.known_pairs.Goals as goal

pub returns : goal.returns
returns c a b la lb =
    let gs = c.args.set.now in
    c.product.ensures a b la lb
    ∙ ap (λ x. x && has_square c.known_squares-2.result b)
    (ap (λ w. has_square w a) c.known_squares.ensures
    ∙ has-set_of (is_known gs (cell_of_man c.king.result)) a la
    ∙ ap (λ (man : Man). is_known gs (cell_of_man man) a) c.king.ensures)
    ∙ ap (λ x. is_known gs (king_cell White) a && x)
    (ap (λ w. has_square w b) c.known_squares-2.ensures
    ∙ has-set_of (is_known gs (cell_of_man c.king-2.result)) b lb
    ∙ ap (λ (man : Man). is_known gs (cell_of_man man) b) c.king-2.ensures)
