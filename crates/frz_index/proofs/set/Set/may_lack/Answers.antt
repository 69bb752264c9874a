use Rattle.std.proofs.Common.{◌≡◌, ◌∙◌, List, ap, arith, false, filter, subst, sym}
use Rattle.frz_squares.specs.SquareSets.{has_square}
use Rattle.frz_squares.proofs.Lemmas.{has-set_of}
use Rattle.frz_sets.specs.Views.{GroupLine}
use Rattle.frz_index.specs.Kept.{is_known, may_lack}
use Rattle.frz_index.proofs.RoomForMen.{room_filled}
use Rattle.frz_index.proofs.set.Set.may_lack.Goals as goal

pub returns : goal.returns
returns c p man member cell off =
    let gs = filter may_lack c.self.inside.plan.groups.items in
    let here : is_known gs c.args.cell c.args.s ≡ false =
    sym (has-set_of (is_known gs c.args.cell) c.args.s c.contains.ensures.on_board)
    ∙ sym (ap (λ w. has_square w c.args.s)
    (c.self.invariant.lacking_are.known c.args.cell (omega arith)))
    ∙ sym c.contains.ensures.there ∙ off in
    let known = subst (λ (gs : List GroupLine). is_known (filter may_lack gs) c.args.cell c.args.s
    ≡ false) c.self.view_is here in
    room_filled c.args.self.now p man c.args.s member
    (ap (λ x. is_known (filter may_lack c.args.self.now) x c.args.s) (sym cell) ∙ known)
