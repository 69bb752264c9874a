use Rattle.std.proofs.Common.{ap, sym, ◌∙◌}
use Rattle.frz_board.specs.declared.man.Kind.TheVariants.{King}
use Rattle.frz_board.specs.Boards.{has}
use Rattle.frz_board.specs.Squares.{distance}
use Rattle.frz_exits.specs.Conditions.{in_range}
use Rattle.frz_exits.proofs.WordsOfMen.{king_at, none_there}
use Rattle.frz_exits.proofs.conditions.is_king_within.Goals as goal

pub returns-in-None : goal.returns-in-None
returns-in-None c =
    sym (none_there (λ s. has c.args.q.now c.args.colour King s)
    (λ s. in_range c.args.least c.args.most (distance s c.args.square)) c.men.result c.men.ensures
    c.in-None.ensures)

pub returns-in-Some : goal.returns-in-Some
returns-in-Some c =
    c.is_in_range.ensures
    ∙ ap (λ n. in_range c.args.least c.args.most n) c.distance.ensures.distance
    ∙ king_at c.args.q.now c.args.colour
    (λ s. in_range c.args.least c.args.most (distance s c.args.square)) c.men.result
    c.in-Some.king c.requires c.men.ensures c.in-Some.ensures
