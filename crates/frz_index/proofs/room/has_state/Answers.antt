use Rattle.std.proofs.Common.{◌≡◌, true, false, ap, refl, slice_index, sym, ◌∙◌}
use denote.Enum.Bare.{sameb}
use Rattle.frz_board.specs.contracts.man.Colour.{the_type}
use Rattle.frz_board.specs.declared.man.Colour.{Colour}
use Rattle.frz_board.specs.declared.man.Colour.TheVariants.{White, Black}
use Rattle.frz_squares.specs.SquareSets.{has_square}
use Rattle.frz_sets.specs.Views.{GroupLine}
use Rattle.frz_index.proofs.RoomForMen.{no_state, own_state}
use Rattle.frz_index.proofs.room.has_state.Goals as goal

equal : (c d : Colour) → sameb the_type c d ≡ true → c ≡ d
equal White White h = refl
equal White Black h = cc
equal Black White h = cc
equal Black Black h = refl

differ : (c d : Colour) → sameb the_type c d ≡ false → c ≡ d → ⊥
differ White White h e = cc
differ White Black h e = cc
differ Black White h e = cc
differ Black Black h e = cc

pub returns-then-eq : goal.returns-then-eq
returns-then-eq c =
    let colour = ap (λ (g : GroupLine). g.colour) c.group.view_is in
    let own : c.args.group.now.colour ≡ c.args.man.colour = sym colour
    ∙ equal c.group.inside.colour c.args.man.colour (sym c.eq.ensures ∙ c.if-eq.true) in
    let state = own_state c.args.group.now c.args.chart.now c.requires c.args.man c.args.s
    c.contains.ensures.on_board own in
    c.contains.ensures.there
    ∙ ap (λ i. has_square (slice_index c.args.chart.now.words i) c.args.s)
    c.kind_number.ensures.number
    ∙ sym state

pub returns-else-eq : goal.returns-else-eq
returns-else-eq c =
    let colour = ap (λ (g : GroupLine). g.colour) c.group.view_is in
    let none = no_state c.args.group.now c.args.man c.args.s
    (λ own. differ c.group.inside.colour c.args.man.colour (sym c.eq.ensures ∙ c.if-eq.false)
    (colour ∙ own)) in
    c.if-eq.false ∙ sym none
