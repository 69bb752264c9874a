use Rattle.std.proofs.Common.{◌∙◌, ap, arith}
use Rattle.frz_squares.specs.SquareSets.{has_square}
use Rattle.frz_squares.proofs.Lemmas.{has-set_of}
use Rattle.frz_index.specs.Kept.{is_known}
use Rattle.frz_index.proofs.set.Set.may_stand.Goals as goal

pub returns : goal.returns
returns c =
    let known = is_known c.self.inside.plan.groups.items c.args.cell in
    c.contains.ensures.there
    ∙ ap (λ w. has_square w c.args.s) (c.self.invariant.known_are.known c.args.cell (omega arith))
    ∙ has-set_of known c.args.s c.contains.ensures.on_board
    ∙ ap (λ gs. is_known gs c.args.cell c.args.s) c.self.view_is
