use Rattle.std.proofs.Common.{◌≡◌, ◌∙◌, ◌+◌, ◌*◌, ap, refl, sym, true, false, Some}
use Rattle.frz_board.specs.declared.man.Kind.TheVariants.{King}
use Rattle.frz_sets.specs.Views.{GroupLine}
use Rattle.frz_configurations.specs.Configurations.{has_kings}
use Rattle.frz_configurations.specs.Joined.{of_colour}
use Rattle.frz_configurations.proofs.PuttingTogether.{joined_king, joined_other}
use Rattle.frz_configurations.proofs.joined.put.Goals as goal

pub returns-then-has_kings : goal.returns-then-has_kings
returns-then-has_kings c gs configuration h =
    let g = c.args.group.now in
    let x = c.args.joined.now in
    let kings : has_kings g ≡ true = sym c.has_kings.ensures ∙ c.if-has_kings.true in
    joined_king gs configuration c.args.white c.args.black g c.args.radix c.place-digit.result x _ h
    kings (c.requires.kings kings) c.requires.radix refl
    (ap (λ n. x.number + n * x.count) c.from.ensures)
    (ap (λ n. x.count * n) c.from-then-has_kings.ensures)
    (c.place-digit.ensures.state
    ∙ ap (λ s. Some (King, s)) (c.square_of.ensures
    ∙ ap (λ (v : GroupLine). of_colour v.colour c.args.white c.args.black) c.group.view_is))

pub returns-else-has_kings : goal.returns-else-has_kings
returns-else-has_kings c gs configuration h =
    let g = c.args.group.now in
    let x = c.args.joined.now in
    let none : has_kings g ≡ false = sym c.has_kings.ensures ∙ c.if-has_kings.false in
    joined_other gs configuration c.args.white c.args.black g c.args.radix x _ h none
    c.requires.radix c.requires.some refl
    (ap (λ n. x.number + n * x.count) c.from-else-has_kings.ensures)
    (ap (λ n. x.count * n) c.from-else-has_kings-2.ensures)
