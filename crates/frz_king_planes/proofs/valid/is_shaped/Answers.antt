use Rattle.std.proofs.Common.{◌≡◌, ◌∙◌, ap, length, sym}
use Rattle.std.specs.Prelude.{is_ok}
use Rattle.frz_board.specs.Boards.{Board}
use Rattle.frz_board.specs.Shapes.{shape_of}
use Rattle.frz_planes.specs.Planes.{IsNext}
use Rattle.frz_king_planes.specs.Kings.{with_kings}
use Rattle.frz_king_planes.proofs.Shaped.{one_shape, shape_told}
use Rattle.frz_king_planes.proofs.valid.is_shaped.Goals as goal

pub returns-in-Some : goal.returns-in-Some
returns-in-Some c a b la lb h =
    let p = c.args.p.now in
    let x = c.in-Some.a in
    let y = c.in-Some.b in
    let next : IsNext c.args.pairs.now 0 x y = c.in-Some.ensures in
    let size : length p.cells ≡ 64 =
    ap (λ (q : Board). length q.cells) (sym c.as_position.ensures) ∙ c.turn-turn.ensures.fits.size in
    c.is_ok.ensures.value ∙ ap is_ok c.shape.ensures ∙ ap (λ q. is_ok (shape_of q)) c.with_kings.ensures
    ∙ ap (λ s. is_ok (shape_of (with_kings p s c.at-in-Some.result))) c.at.ensures
    ∙ ap (λ s. is_ok (shape_of (with_kings p x s))) c.at-in-Some.ensures
    ∙ shape_told (with_kings p x y)
    ∙ one_shape p x y a b size next.white next.black la lb
    (c.requires x y next.white next.black next.there) (c.requires a b la lb h)
