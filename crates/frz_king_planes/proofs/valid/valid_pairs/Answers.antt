use Rattle.std.proofs.Common.{◌∙◌, ap, subst}
use Rattle.frz_board.specs.declared.man.Colour.{Colour}
use Rattle.frz_board.specs.Boards.{Board, CellsFit}
use Rattle.frz_board.specs.Men.{other_of}
use Rattle.frz_king_planes.specs.Attacked.{AreAttacked}
use Rattle.frz_king_planes.proofs.ValidPairs.{all_valid, none_valid}
use Rattle.frz_king_planes.proofs.valid.valid_pairs.Goals as goal

pub returns-then-not-is_shaped : goal.returns-then-not-is_shaped
returns-then-not-is_shaped c =
    let p = c.args.p.now in
    let F : Board → Type 0 = λ q. CellsFit q.cells in
    none_valid p (subst F c.as_position.ensures c.turn-turn.ensures.fits)
    c.room_pairs-pairs.result c.is_shaped.result c.room_pairs-pairs.ensures c.is_shaped.ensures
    c.empty.result c.if-not-is_shaped.true c.empty.ensures

pub returns : goal.returns
returns c =
    let p = c.args.p.now in
    let F : Board → Type 0 = λ q. CellsFit q.cells in
    let H : Colour → Type 0 = λ d. AreAttacked p d c.attacked.result in
    let other = c.other.ensures.other
    ∙ ap other_of (c.turn-turn.ensures.turn ∙ ap (λ (q : Board). q.turn) c.as_position.ensures) in
    all_valid p (subst F c.as_position.ensures c.turn-turn.ensures.fits)
    c.room_pairs-pairs.result c.is_shaped.result c.room_pairs-pairs.ensures c.is_shaped.ensures
    c.attacked.result c.without.new.self c.if-not-is_shaped.false
    (subst H other c.attacked.ensures) c.without.ensures
