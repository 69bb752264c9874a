use Rattle.std.proofs.Common.{List, Option, Result, sym, subst}
use Rattle.std.specs.Prelude.{map}
use Rattle.frz_sets.specs.Views.{GroupLine}
use Rattle.frz_store.specs.declared.outside.Failed.{Failed}
use Rattle.frz_store.specs.Told.{sink_of}
use Rattle.frz_answer.specs.Texts.{WroteText}
use Rattle.frz_backs.specs.FileOn.{loaded_back}
use Rattle.frz_game.specs.declared.wrong.Wrong.{Wrong}
use Rattle.frz_game.proofs.Lemmas.{finite}
use Rattle.frz_commands_why.specs.Deciders.{decider_of}
use Rattle.frz_commands_why.specs.Telling.{TellsSo, ToldFailure}
use Rattle.frz_commands_why.specs.Texts.{LeavesLegally, end_text}
use Rattle.frz_commands_why.proofs.Told.{as_failed, failure_failed, failure_told, told_legally}
use Rattle.frz_commands_why.proofs.telling.tell_failure.Goals as goal

pub write_failing_way-requires-clause-sound : goal.write_failing_way-requires-clause-sound
write_failing_way-requires-clause-sound g c =
    let game = c.args.game.now in
    finite game.rules.now (g.B.ExitBook.value_at game.book.now)
    (g.met.B.ExitBook.small game.book.now) c.requires.few

pub returns-in_err-reason-clause-told : goal.returns-in_err-reason-clause-told
returns-in_err-reason-clause-told g c =
    let game = c.args.game.now in
    let rules = game.rules.now in
    let value = g.B.ExitBook.value_at game.book.now in
    let codes = g.E.Entries.codes c.args.entries.now c.args.side in
    let deciding = c.args.deciding.now in
    let decider = decider_of deciding.leans deciding.numbers.now deciding.rules.now
    (map loaded_back deciding.backs.now) in
    let old = sink_of g.O.Sink c.args.out.now in
    let new = sink_of g.O.Sink c.write_failing_way.new.out in
    as_failed (λ (r : Result (Option Wrong) Failed).
    TellsSo (ToldFailure rules value c.args.side codes decider c.args.number) r old new)
    c.from_residual.result c.from_residual.ensures.0
    (λ d. failure_failed rules value c.args.side codes decider c.args.number
    c.in_err-reason.field-0.0 d old new c.in_err-reason.ensures.told)

pub write_end-requires-clause-legal : goal.write_end-requires-clause-legal
write_end-requires-clause-legal g c =
    let game = c.args.game.now in
    subst (λ (l : List GroupLine). LeavesLegally l c.in_ok-reason.reason) (sym game.fits)
    (told_legally c.failing_ways_are_games.ensures.end game.rules.now
    (g.B.ExitBook.value_at game.book.now) c.args.side
    (g.E.Entries.codes c.args.entries.now c.args.side) c.args.number c.requires.inside
    c.in_ok-reason.reason (sink_of g.O.Sink c.args.out.now)
    (sink_of g.O.Sink c.write_failing_way.new.out) c.in_ok-reason.ensures.told)

pub returns-clause-told : goal.returns-clause-told
returns-clause-told g c =
    let game = c.args.game.now in
    let rules = game.rules.now in
    let value = g.B.ExitBook.value_at game.book.now in
    let codes = g.E.Entries.codes c.args.entries.now c.args.side in
    let deciding = c.args.deciding.now in
    let decider = decider_of deciding.leans deciding.numbers.now deciding.rules.now
    (map loaded_back deciding.backs.now) in
    let old = sink_of g.O.Sink c.args.out.now in
    let mid = sink_of g.O.Sink c.write_failing_way.new.out in
    let new = sink_of g.O.Sink c.write_end.new.out in
    failure_told rules value c.args.side codes decider c.args.number
    c.in_ok-reason.reason c.write_end.result old mid new c.in_ok-reason.ensures.told
    (subst (λ (l : List GroupLine). WroteText (end_text l decider c.in_ok-reason.reason)
    c.write_end.result mid new) game.fits c.write_end.ensures.wrote)
    c.write_end.ensures.answers
