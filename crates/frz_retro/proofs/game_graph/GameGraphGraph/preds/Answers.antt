use Rattle.std.proofs.Common.{sym, subst, ◌↔◌}
use Rattle.std.specs.List.{Contains}
use Rattle.frz_index.specs.Members.{HasNumber}
use Rattle.frz_unmove.specs.Pairs.{LeadsTo}
use Rattle.frz_retro.proofs.game_graph.GameGraphGraph.preds.Goals as goal

pub unmoves-requires : goal.unmoves-requires
unmoves-requires g c broken =
    let game = c.args.self.now.game.now in
    let at = c.game_moves.ensures.there game.rules.now (g.B.ExitBook.value_at game.book.now)
    c.args.q c.requires.whole in
    let here = subst (λ groups. HasNumber groups c.args.q at.0) (sym c.requires.sound.same) at.1 in
    broken at.0 here.member here.number

pub returns-clause-all : goal.returns-clause-all
returns-clause-all g c i m =
    let game = c.args.self.now.game.now in
    let inside = c.game_moves.ensures.inside game.rules.now (g.B.ExitBook.value_at game.book.now) i
    m c.args.q in
    let all = subst (λ groups. Contains c.unmoves.new.out (record { number = i; mv = m }) ↔ LeadsTo
    groups i m c.args.q) c.requires.sound.same (c.unmoves.ensures.all i m) in
    (λ h. inside.0 (all.0 h), λ w. all.1 (inside.1 w))
