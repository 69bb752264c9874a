use Rattle.std.proofs.Common.{◌∙◌, ap}
use Rattle.frz_board.specs.Boards.{Board}
use Rattle.frz_fide.specs.Legal.{after}
use Rattle.frz_arena.specs.Games.{next_by}
use Rattle.frz_arena.specs.Names.{named_next, name_in}
use Rattle.frz_graph.specs.Forbidding.{is_free}
use Rattle.frz_game.specs.Numbers.{is_member, numbers_by}
use Rattle.frz_game.specs.Games.{arm_at}
use Rattle.frz_game.proofs.Numbers.{same_arm}
use Rattle.frz_game.proofs.game.Game.arm.Goals as goal

pub returns : goal.returns
unfolding arm_at
returns g c =
    let p = c.args.p.now in
    let m = c.args.m in
    let rules = c.args.self.now.rules.now in
    let value = g.B.ExitBook.value_at c.args.self.now.book.now in
    let q = after p m in
    same_arm m c.allowed.result (is_free rules p.turn p m) c.next.result
    (named_next (name_in (numbers_by rules.groups))
    (next_by (is_member rules.groups q) q (value q)))
    (c.allowed.ensures ∙ ap (λ side. is_free rules side c.as_position.result.now m) c.turn.ensures
    ∙ ap (λ (q : Board). is_free rules p.turn q m) c.as_position.ensures) c.next.ensures
