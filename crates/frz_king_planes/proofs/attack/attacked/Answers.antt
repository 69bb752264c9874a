use Rattle.std.proofs.Common.{◌≡◌, ◌∙◌, ap, length, subst, sym}
use Rattle.frz_board.specs.declared.man.Colour.{Colour}
use Rattle.frz_board.specs.Boards.{Board}
use Rattle.frz_board.specs.Men.{other_of}
use Rattle.frz_king_planes.specs.Attacked.{AreAttacked}
use Rattle.frz_king_planes.proofs.AttackedPast.{for_black, for_white}
use Rattle.frz_king_planes.proofs.attack.attacked.Goals as goal

pub returns-in-White : goal.returns-in-White
returns-in-White c =
    let p = c.args.p.now in
    let size : length p.cells ≡ 64 =
    ap (λ (q : Board). length q.cells) (sym c.as_position.ensures) ∙ c.turn-turn.ensures.fits.size in
    let P : Colour → Type 0 = λ d. AreAttacked p d c.attacked_first-pairs.result in
    subst P (sym c.in-White.is)
    (for_white p c.other.result c.attacked_first-pairs.result size
    (c.other.ensures.other ∙ ap other_of c.in-White.is) c.attacked_first-pairs.ensures)

pub returns-in-Black : goal.returns-in-Black
returns-in-Black c =
    let p = c.args.p.now in
    let size : length p.cells ≡ 64 =
    ap (λ (q : Board). length q.cells) (sym c.as_position.ensures) ∙ c.turn-turn.ensures.fits.size in
    let P : Colour → Type 0 = λ d. AreAttacked p d c.turned.result in
    subst P (sym c.in-Black.is)
    (for_black p c.other.result c.attacked_first-pairs.result c.turned.result size
    (c.other.ensures.other ∙ ap other_of c.in-Black.is) c.attacked_first-pairs.ensures
    c.turned.ensures)
