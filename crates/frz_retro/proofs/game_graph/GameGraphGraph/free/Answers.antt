use Rattle.std.proofs.Common.{◌≡◌, ◌<◌, false, not, sym, ◌∙◌, ap, ap₂, subst}
use Rattle.std.proofs.lemmas.Option.{same_Some}
use Rattle.frz_board.specs.Boards.{Board}
use Rattle.std.specs.List.{list_any}
use Rattle.frz_board.specs.Men.{same_colour}
use Rattle.frz_board.specs.Moving.{Step}
use Rattle.frz_exits.specs.Forbidding.{is_free}
use Rattle.frz_index.specs.Members.{HasNumber}
use Rattle.frz_sets.specs.Sets.{size_of}
use Rattle.frz_retro.proofs.Unrestricted.{none_forbidden}
use Rattle.frz_retro.proofs.game_graph.GameGraphGraph.free.Goals as goal

pub unreachable-requires : goal.unreachable-requires
unreachable-requires g c =
    let game = c.args.self.now.game.now in
    let arm = c.requires.arm in
    let at = c.game_moves.ensures.free game.rules.now (g.B.ExitBook.value_at game.book.now) c.args.i
    arm.0 arm.1 in
    let number = subst (λ groups. HasNumber groups c.args.i at.0) (sym c.requires.sound.same)
    at.1 in
    let found = (c.boards_at.ensures.exact at.0).1 number in
    let none = c.in-None.is in
    absurd cc

pub mover-mover-requires : goal.mover-mover-requires
mover-mover-requires g c =
    subst (λ groups. c.args.i < size_of groups) (sym c.requires.sound.same) c.requires.inside

pub returns-then-not-is_restricted : goal.returns-then-not-is_restricted
returns-then-not-is_restricted g c a there move =
    let game = c.args.self.now.game.now in
    let at = c.game_moves.ensures.free game.rules.now (g.B.ExitBook.value_at game.book.now) c.args.i
    a there in
    let number = subst (λ groups. HasNumber groups c.args.i at.0) (sym c.requires.sound.same)
    at.1 in
    let lines = game.rules.now.forbids in
    let turn = c.mover-mover.ensures.turn at.0 number in
    let none = subst (λ side. list_any (λ line. same_colour line.colour side) lines ≡ false)
    (sym turn) (sym c.is_restricted.ensures ∙ c.if-not-is_restricted.true) in
    sym (at.2 ∙ ap not (none_forbidden lines at.0.turn at.0 a.mv none))

pub returns : goal.returns
returns g c a there move =
    let game = c.args.self.now.game.now in
    let at = c.game_moves.ensures.free game.rules.now (g.B.ExitBook.value_at game.book.now) c.args.i
    a there in
    let number = subst (λ groups. HasNumber groups c.args.i at.0) (sym c.requires.sound.same)
    at.1 in
    let same = same_Some at.0 c.in-Some.p
    (sym ((c.boards_at.ensures.exact at.0).1 number) ∙ c.in-Some.is) in
    c.allowed.ensures
    ∙ (ap₂ (λ turn (p : Board). is_free game.rules.now turn p c.args.mv) c.turn.ensures
    c.as_position.ensures
    ∙ (ap (λ (p : Board). is_free game.rules.now p.turn p c.args.mv) (sym same)
    ∙ (ap (λ (m : Step). is_free game.rules.now at.0.turn at.0 m) (sym move) ∙ sym at.2)))
