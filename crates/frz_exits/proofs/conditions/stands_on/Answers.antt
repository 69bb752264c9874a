use Rattle.std.proofs.Common.{ap, ℕ, ◌&&◌, ◌∙◌}
use Rattle.std.specs.List.{list_any}
use Rattle.frz_board.specs.Boards.{has}
use Rattle.frz_board.specs.Squares.{squares}
use Rattle.frz_squares.specs.SquareSets.{has_square}
use Rattle.frz_exits.proofs.WordsOfMen.{common_square}
use Rattle.frz_exits.proofs.conditions.stands_on.Goals as goal

pub returns : goal.returns
returns c =
    let stands = λ (s : ℕ). has c.args.q.now c.args.colour c.args.kind s in
    common_square stands c.men.result c.set.inside.0 c.both.result c.men.ensures c.both.type_inv
    c.both.ensures
    ∙ ap (λ set. list_any (λ s. stands s && has_square set s) squares) c.set.view_is
