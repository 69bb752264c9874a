use Rattle.std.proofs.Common.{◌≡◌, ℕ, false, sym, ◌∙◌, subst}
use Rattle.frz_board.specs.declared.man.Colour.TheVariants.{White, Black}
use Rattle.frz_configurations.specs.Joined.{IsKingSquare}
use Rattle.frz_configurations.specs.Shares.{is_king_square}
use Rattle.frz_configurations.proofs.KingTests.{moved_black, moved_white, passes_square, square_passes}
use Rattle.frz_configurations.proofs.OneNumber.{king_squares}
use Rattle.frz_configurations.proofs.OtherDigits.{configuration_below}
use Rattle.frz_configurations.proofs.shares.moved.Goals as goal

pub number-requires-clause-inside : goal.number-requires-clause-inside
number-requires-clause-inside c =
    let x = c.args.origin.now in
    configuration_below c.args.configurations.now.rules.now.groups 0 x.configuration x.white x.black
    c.requires.origin

pub number-requires-clause-white : goal.number-requires-clause-white
number-requires-clause-white c =
    let r = c.args.configurations.now.rules.now in
    let x = c.args.origin.now in
    let P : ℕ → Type 0 = λ s. IsKingSquare r.groups White s in
    subst P (sym c.square_of.ensures)
    (moved_white r.groups c.args.colour c.args.square x.white
    (passes_square r.groups c.args.colour c.args.square
    (sym c.is_king_square.ensures ∙ c.if-is_king_square.true))
    (king_squares r 0 x.configuration x.white x.black c.requires.sound c.requires.origin).0)

pub number-requires-clause-black : goal.number-requires-clause-black
number-requires-clause-black c =
    let r = c.args.configurations.now.rules.now in
    let x = c.args.origin.now in
    let P : ℕ → Type 0 = λ s. IsKingSquare r.groups Black s in
    subst P (sym c.square_of-then-is_king_square.ensures)
    (moved_black r.groups c.args.colour c.args.square x.black
    (passes_square r.groups c.args.colour c.args.square
    (sym c.is_king_square.ensures ∙ c.if-is_king_square.true))
    (king_squares r 0 x.configuration x.white x.black c.requires.sound c.requires.origin).1)

pub returns-else-is_king_square : goal.returns-else-is_king_square
returns-else-is_king_square c on =
    let r = c.args.configurations.now.rules.now in
    let none : is_king_square r.groups c.args.colour c.args.square ≡ false =
    sym c.is_king_square.ensures ∙ c.if-is_king_square.false in
    absurd (let some = square_passes r.groups c.args.colour c.args.square on in cc)
