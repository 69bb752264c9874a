use Rattle.std.proofs.Common.{◌∙◌, ◌&&◌, ap, arith}
use Rattle.frz_board.specs.Men.{cell_of_man}
use Rattle.frz_squares.specs.SquareSets.{has_square}
use Rattle.frz_squares.proofs.Lemmas.{has-set_of, set_of-from}
use Rattle.frz_index.specs.Kept.{is_known}
use Rattle.frz_unmove.proofs.Begins.{known_on}
use Rattle.frz_unmove.proofs.origins.with_known.Goals as goal

pub returns : goal.returns
returns c =
    let known = is_known c.args.set.now (cell_of_man c.args.man) in
    set_of-from c.both.result (known_on c.args.set.now c.args.man c.args.squares) (omega arith)
    (λ a low. c.both.ensures a low
    ∙ ap (λ x. has_square c.args.squares a && x)
    (ap (λ word. has_square word a) c.known_squares.ensures ∙ has-set_of known a low))
