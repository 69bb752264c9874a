use Rattle.std.proofs.Common.{◌∙◌, ap, sym, map, true}
use Rattle.frz_board.specs.Boards.{Board}
use Rattle.frz_board.specs.Attacks.{is_in_check}
use Rattle.frz_fide.specs.Listing.{legal_moves_of}
use Rattle.frz_arena.specs.Games.{node_by}
use Rattle.frz_game.specs.Numbers.{position_at}
use Rattle.frz_game.specs.Games.{arm_at}
use Rattle.frz_game.proofs.Endings.{node_is_there}
use Rattle.frz_game.proofs.Graph.{node_missing, node_there, arms_missing, arms_there}
use Rattle.frz_game.proofs.game.Game.nexts_by.Goals as goal

pub returns-in-None-clause-node : goal.returns-in-None-clause-node
returns-in-None-clause-node g c =
    let i = c.args.i in
    let rules = c.args.self.now.rules.now in
    sym (node_missing rules (g.B.ExitBook.value_at c.args.self.now.book.now) i
    (ap (λ gs. position_at gs i) (sym c.args.self.now.fits)
    ∙ (sym c.position.ensures.position ∙ c.in-None.is)))

pub returns-in-None-clause-arms : goal.returns-in-None-clause-arms
returns-in-None-clause-arms g c =
    let i = c.args.i in
    let rules = c.args.self.now.rules.now in
    c.clear.ensures
    ∙ sym (arms_missing rules (g.B.ExitBook.value_at c.args.self.now.book.now) i
    (ap (λ gs. position_at gs i) (sym c.args.self.now.fits)
    ∙ (sym c.position.ensures.position ∙ c.in-None.is)))

pub returns-in-Some-clause-node : goal.returns-in-Some-clause-node
returns-in-Some-clause-node g c =
    let i = c.args.i in
    let rules = c.args.self.now.rules.now in
    c.node.ensures
    ∙ ap (λ (p : Board). node_by true (legal_moves_of p) (is_in_check p p.turn) p.turn)
    c.as_position.ensures
    ∙ sym (node_there rules (g.B.ExitBook.value_at c.args.self.now.book.now) i c.in-Some.p
    (ap (λ gs. position_at gs i) (sym c.args.self.now.fits)
    ∙ (sym c.position.ensures.position ∙ c.in-Some.is)))

pub returns-in-Some-clause-arms : goal.returns-in-Some-clause-arms
returns-in-Some-clause-arms g c =
    let i = c.args.i in
    let rules = c.args.self.now.rules.now in
    let value = g.B.ExitBook.value_at c.args.self.now.book.now in
    c.put_arms.ensures
    ∙ (ap (λ ms. map (arm_at rules value c.in-Some.p) ms) c.put_legal_moves.ensures.moves
    ∙ sym (arms_there rules value i c.in-Some.p
    (ap (λ gs. position_at gs i) (sym c.args.self.now.fits)
    ∙ (sym c.position.ensures.position ∙ c.in-Some.is))))

pub returns-in-Some-clause-broken : goal.returns-in-Some-clause-broken
returns-in-Some-clause-broken g c e =
    absurd (node_is_there c.in-Some.p
    (sym (c.node.ensures
    ∙ ap (λ (p : Board). node_by true (legal_moves_of p) (is_in_check p p.turn) p.turn)
    c.as_position.ensures) ∙ e))
