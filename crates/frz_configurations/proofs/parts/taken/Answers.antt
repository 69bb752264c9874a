use Rattle.std.proofs.Common.{◌≡◌, ◌∙◌, ◌+◌, ◌*◌, ap, refl, sym, true, false}
use Rattle.std.proofs.lemmas.Nat.{mod_below}
use Rattle.frz_configurations.specs.Configurations.{has_kings}
use Rattle.frz_configurations.proofs.TakingApart.{king_read, parted_black, parted_other, parted_white}
use Rattle.frz_configurations.proofs.parts.taken.Goals as goal

pub returns-in-White : goal.returns-in-White
returns-in-White c gs number h =
    let g = c.args.group.now in
    let state = c.index.result.now in
    let kings : has_kings g ≡ true = sym c.has_kings.ensures ∙ c.if-has_kings.true in
    let low = mod_below c.args.parts.now.rest c.args.radix c.requires.some in
    parted_white gs number g c.args.radix state.1 c.args.parts.now _ h
    (ap (λ v. v.colour) (sym c.group.view_is) ∙ c.in-White.is) kings c.requires.radix
    c.requires.some refl refl refl
    (king_read g _ c.group.inside.states.items _ c.args.radix state c.group.view_is refl
    (c.requires.kings kings) c.requires.radix low c.index.ensures)
    refl refl

pub returns-in-Black : goal.returns-in-Black
returns-in-Black c gs number h =
    let g = c.args.group.now in
    let state = c.index.result.now in
    let kings : has_kings g ≡ true = sym c.has_kings.ensures ∙ c.if-has_kings.true in
    let low = mod_below c.args.parts.now.rest c.args.radix c.requires.some in
    parted_black gs number g c.args.radix state.1 c.args.parts.now _ h
    (ap (λ v. v.colour) (sym c.group.view_is) ∙ c.in-Black.is) kings c.requires.radix
    c.requires.some refl refl refl
    (king_read g _ c.group.inside.states.items _ c.args.radix state c.group.view_is refl
    (c.requires.kings kings) c.requires.radix low c.index.ensures)
    refl refl

pub returns-else-has_kings : goal.returns-else-has_kings
returns-else-has_kings c gs number h =
    let g = c.args.group.now in
    let none : has_kings g ≡ false = sym c.has_kings.ensures ∙ c.if-has_kings.false in
    parted_other gs number g c.args.radix c.args.parts.now _ h none c.requires.radix
    c.requires.some refl
    (ap (λ n. c.args.parts.now.configuration + n * c.args.parts.now.count) c.from.ensures)
    (ap (λ n. c.args.parts.now.count * n) c.from-else-has_kings.ensures) refl refl
