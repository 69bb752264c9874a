use Rattle.std.proofs.Common.{◌∙◌, [], refl, sym, subst, ap, get_or}
use Rattle.frz_game.specs.declared.wrong.Wrong.{Wrong}
use Rattle.frz_reasons.specs.declared.reason.Reason.TheVariants as reasons
use Rattle.frz_reasons.specs.FailingWays.{FailsFrom, wrong}
use Rattle.frz_reasons.proofs.TurnFound.{mated_there, played_as, renounced_as}
use Rattle.frz_reasons.proofs.turn.take_turn.Goals as goal

pub returns-in-Err-clause-turn : goal.returns-in-Err-clause-turn
returns-in-Err-clause-turn g c =
    let arena = g.G.NumberedGame.arena c.args.game.now in
    let codes = g.E.Entries.codes c.args.entries.now c.args.side in
    let seen = c.in-Err.ensures.seen in
    subst (λ (w : Wrong). FailsFrom arena c.args.side codes c.args.number [] (reasons.Wrong w))
    (sym seen.1) (wrong seen.0)

pub returns-in-Some-clause-turn : goal.returns-in-Some-clause-turn
returns-in-Some-clause-turn g c =
    let arena = g.G.NumberedGame.arena c.args.game.now in
    let size = g.G.NumberedGame.count c.args.game.now in
    let codes = g.E.Entries.codes c.args.entries.now c.args.side in
    let finite = g.met.G.NumberedGame.finite c.args.game.now c.requires.sound in
    let seen = c.in-Ok-Going.ensures.seen in
    let found = c.in-Some.ensures in
    played_as arena size finite c.args.side codes c.args.number c.in-Ok-Going.mover
    (seen.1 ∙ c.in-Ok-Going.field-0-is) seen.0 c.is_same.result c.entry-code.result c.look.new.lists.nexts.items
    c.look.new.lists.codes.items c.is_same.ensures c.entry-code.ensures
    c.in-Ok-Going.ensures.arms c.in-Ok-Going.ensures.codes c.in-Some.place found.some found.first
    c.index-deref-place.result
    (c.index-deref-place.is ∙ ap (λ l. get_or l c.in-Some.place c.index-deref-place.result)
    c.deref.ensures.0)

pub returns-in-None-clause-turn : goal.returns-in-None-clause-turn
returns-in-None-clause-turn g c =
    let arena = g.G.NumberedGame.arena c.args.game.now in
    let size = g.G.NumberedGame.count c.args.game.now in
    let codes = g.E.Entries.codes c.args.entries.now c.args.side in
    let finite = g.met.G.NumberedGame.finite c.args.game.now c.requires.sound in
    let seen = c.in-Ok-Going.ensures.seen in
    renounced_as arena size finite c.args.side codes c.args.number c.in-Ok-Going.mover
    (seen.1 ∙ c.in-Ok-Going.field-0-is) seen.0 c.is_same.result c.entry-code.result c.look.new.lists.nexts.items
    c.look.new.lists.codes.items c.is_same.ensures c.entry-code.ensures
    c.in-Ok-Going.ensures.arms c.in-Ok-Going.ensures.codes
    (c.failures_are_spoiled.ensures arena finite.lawful c.args.side codes c.args.number
    c.requires.failing seen.0)
    (c.in-None.ensures.none refl)

pub returns-in-Ok-Mate-clause-turn : goal.returns-in-Ok-Mate-clause-turn
returns-in-Ok-Mate-clause-turn g c =
    let arena = g.G.NumberedGame.arena c.args.game.now in
    let codes = g.E.Entries.codes c.args.entries.now c.args.side in
    let finite = g.met.G.NumberedGame.finite c.args.game.now c.requires.sound in
    let seen = c.in-Ok-Mate.ensures.seen in
    mated_there arena c.args.side codes c.args.number c.in-Ok-Mate.field-0-0
    (seen.1 ∙ c.in-Ok-Mate.field-0-is) seen.0
    (c.failures_are_spoiled.ensures arena finite.lawful c.args.side codes c.args.number
    c.requires.failing seen.0)
