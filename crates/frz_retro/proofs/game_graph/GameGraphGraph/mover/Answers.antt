use Rattle.std.proofs.Common.{◌<◌, Some, sym, ◌∙◌, ap, subst}
use Rattle.frz_index.specs.Members.{HasNumber}
use Rattle.frz_sets.specs.Sets.{size_of}
use Rattle.frz_retro.proofs.game_graph.GameGraphGraph.mover.Goals as goal

pub mover-requires : goal.mover-requires
mover-requires g c =
    subst (λ groups. c.args.i < size_of groups) (sym c.requires.sound.same) c.requires.inside

pub returns : goal.returns
returns g c =
    let game = c.args.self.now.game.now in
    let at = c.game_moves.ensures.there game.rules.now (g.B.ExitBook.value_at game.book.now)
    c.args.i c.requires.whole in
    let number = subst (λ groups. HasNumber groups c.args.i at.0) (sym c.requires.sound.same)
    at.1 in
    at.2 ∙ ap Some (c.mover.ensures.turn at.0 number)
