use Rattle.std.proofs.Common.{◌∙◌, ◌-◌, ap, not}
use Rattle.std.proofs.Math.Bool.{not-not}
use Rattle.frz_board.specs.Boards.{is_empty}
use Rattle.frz_squares.specs.SquareSets.{has_square}
use Rattle.frz_squares.proofs.Lemmas.{has-not, has-set_of, set_of-small}
use Rattle.frz_king_planes.proofs.room.empty_squares.Goals as goal

pub returns : goal.returns
returns c s l =
    let p = c.args.p.now in
    ap (λ w. has_square (18446744073709551615 - w) s) c.occupied.ensures
    ∙ has-not _ s (set_of-small (λ k. not (is_empty p k))) l
    ∙ ap not (has-set_of (λ k. not (is_empty p k)) s l)
    ∙ not-not (is_empty p s)
