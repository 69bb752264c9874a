use Rattle.std.proofs.Common.{subst}
use Rattle.frz_board.specs.declared.man.Colour.{Colour}
use Rattle.frz_board.specs.Boards.{Board}
use Rattle.frz_fide.specs.Legal.{after}
use Rattle.frz_king_planes.specs.Attacked.{AreAttacked}
use Rattle.frz_pair_moves.proofs.Pairs.{valid_unhit}
use Rattle.frz_pair_moves.proofs.men.safe_pairs.Goals as goal

pub returns : goal.returns
returns c =
    let p = c.args.p.now in
    let hit = c.attacked.result in
    let F : Board → Type 0 = λ q. AreAttacked q c.turn.result hit in
    let H : Colour → Type 0 = λ d. AreAttacked (after p c.args.m) d hit in
    valid_unhit p c.args.m c.off_way-squares.ensures.step c.args.before.now c.keep.new.self
    c.off_way-squares.result c.requires.before c.requires.step c.off_way-squares.ensures.off
    c.keep.ensures hit c.without.new.self
    (subst H c.turn.ensures (subst F c.requires.after c.attacked.ensures)) c.without.ensures
