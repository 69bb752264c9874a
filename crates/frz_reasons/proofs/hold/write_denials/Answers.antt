use Rattle.std.proofs.Common.{◌∙◌, sym}
use Rattle.frz_store.specs.Told.{sink_of}
use Rattle.frz_reasons.proofs.DeniedAt.{denied_failed, denied_other, denied_own, denied_stale, denied_wrong}
use Rattle.frz_reasons.proofs.hold.write_denials.Goals as goal

pub returns-in-Err-clause-told : goal.returns-in-Err-clause-told
returns-in-Err-clause-told g c =
    let seen = c.in-Err.ensures.seen in
    denied_wrong (g.G.NumberedGame.arena c.args.game.now) c.args.side
    (g.E.Entries.codes c.args.entries.now c.args.side) c.args.number c.in-Err.wrong seen.0 seen.1
    (sink_of g.O.Sink c.args.out.now)

pub returns-in-Ok-Stalemate-clause-told : goal.returns-in-Ok-Stalemate-clause-told
returns-in-Ok-Stalemate-clause-told g c =
    let seen = c.in-Ok-Stalemate.ensures.seen in
    denied_stale (g.G.NumberedGame.arena c.args.game.now) c.args.side
    (g.E.Entries.codes c.args.entries.now c.args.side) c.args.number c.in-Ok-Stalemate.field-0-0
    seen.0 (seen.1 ∙ c.in-Ok-Stalemate.field-0-is) (sink_of g.O.Sink c.args.out.now)

pub returns-then-is_same-clause-told : goal.returns-then-is_same-clause-told
returns-then-is_same-clause-told g c =
    let seen = c.in-Ok-Going.ensures.seen in
    denied_own (g.G.NumberedGame.arena c.args.game.now) c.args.side
    (g.E.Entries.codes c.args.entries.now c.args.side) c.args.number c.in-Ok-Going.mover
    seen.0 (seen.1 ∙ c.in-Ok-Going.field-0-is) c.deref.result.now
    (c.deref.ensures.0 ∙ c.in-Ok-Going.ensures.arms)
    (sym c.is_same.ensures ∙ c.if-is_same.true) c.write_own.result
    (sink_of g.O.Sink c.args.out.now) (sink_of g.O.Sink c.write_own.new.out)
    c.write_own.ensures.told

pub returns-in_err-write_other-in-Ok-Going-clause-told :
    goal.returns-in_err-write_other-in-Ok-Going-clause-told
returns-in_err-write_other-in-Ok-Going-clause-told g c =
    let seen = c.in-Ok-Going.ensures.seen in
    denied_failed (g.G.NumberedGame.arena c.args.game.now) c.args.side
    (g.E.Entries.codes c.args.entries.now c.args.side) c.args.number c.in-Ok-Going.mover
    seen.0 (seen.1 ∙ c.in-Ok-Going.field-0-is) c.deref-in-Ok-Going.result.now
    (c.deref-in-Ok-Going.ensures.0 ∙ c.in-Ok-Going.ensures.arms)
    (sym c.is_same.ensures ∙ c.if-is_same.false) c.from_residual.result
    (sink_of g.O.Sink c.args.out.now) (sink_of g.O.Sink c.write_other.new.out)
    c.from_residual.ensures.0 c.in_err-write_other-in-Ok-Going.ensures.failed

pub returns-in-Ok-Going-clause-told : goal.returns-in-Ok-Going-clause-told
returns-in-Ok-Going-clause-told g c =
    let seen = c.in-Ok-Going.ensures.seen in
    denied_other (g.G.NumberedGame.arena c.args.game.now) c.args.side
    (g.E.Entries.codes c.args.entries.now c.args.side) c.args.number c.in-Ok-Going.mover
    seen.0 (seen.1 ∙ c.in-Ok-Going.field-0-is) c.deref-in-Ok-Going.result.now
    (c.deref-in-Ok-Going.ensures.0 ∙ c.in-Ok-Going.ensures.arms)
    (sym c.is_same.ensures ∙ c.if-is_same.false)
    (sink_of g.O.Sink c.args.out.now) (sink_of g.O.Sink c.write_other.new.out)
    c.in_ok-write_other-in-Ok-Going.ensures.ok
