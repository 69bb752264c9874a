use Rattle.std.proofs.Common.{ℕ, Result, subst}
use Rattle.std.specs.Prelude.{map}
use Rattle.frz_store.specs.declared.outside.Failed.{Failed}
use Rattle.frz_store.specs.Told.{sink_of}
use Rattle.frz_answer.specs.declared.status.Status.{Status}
use Rattle.frz_answer.specs.Texts.{FailedWithin, TookText}
use Rattle.frz_backs.specs.FileOn.{loaded_back}
use Rattle.frz_bound_lines.specs.BoundLines.{kept_line}
use Rattle.frz_commands_why.specs.Deciders.{decider_of}
use Rattle.frz_commands_why.specs.Telling.{TellsWhy}
use Rattle.frz_commands_why.proofs.OneTelling.{told_there}
use Rattle.frz_commands_why.proofs.Told.{as_failed, behind_failed, bound_failed, last_failed}
use Rattle.frz_commands_why.proofs.telling.tell_all.Goals as goal

pub returns-in_err-write_kept_line-clause-told : goal.returns-in_err-write_kept_line-clause-told
returns-in_err-write_kept_line-clause-told g c =
    let game = c.args.game.now in
    let rules = game.rules.now in
    let value = g.B.ExitBook.value_at game.book.now in
    let side = c.args.side in
    let kept = g.E.Entries.codes c.args.entries.now in
    let deciding = c.args.deciding.now in
    let decider = decider_of deciding.leans deciding.numbers.now deciding.rules.now
    (map loaded_back deciding.backs.now) in
    let old = sink_of g.O.Sink c.args.out.now in
    let new = sink_of g.O.Sink c.write_kept_line.new.out in
    let tale = told_there rules value side kept decider c.args.number
    c.one_failing_way.ensures.there in
    as_failed (λ (r : Result Status Failed).
    TellsWhy rules value side kept decider c.args.number r old new) c.from_residual.result
    c.from_residual.ensures.0
    (λ d. bound_failed rules value side kept decider c.args.number tale.text tale.wrong tale.told d
    old new (subst (λ (n : ℕ). FailedWithin (kept_line side n) old new) c.entry.ensures
    c.in_err-write_kept_line.ensures.failed))

pub returns-in_err-wrong-clause-told : goal.returns-in_err-wrong-clause-told
returns-in_err-wrong-clause-told g c =
    let game = c.args.game.now in
    let rules = game.rules.now in
    let value = g.B.ExitBook.value_at game.book.now in
    let side = c.args.side in
    let kept = g.E.Entries.codes c.args.entries.now in
    let deciding = c.args.deciding.now in
    let decider = decider_of deciding.leans deciding.numbers.now deciding.rules.now
    (map loaded_back deciding.backs.now) in
    let old = sink_of g.O.Sink c.args.out.now in
    let first = sink_of g.O.Sink c.write_kept_line.new.out in
    let new = sink_of g.O.Sink c.tell_behind.new.out in
    as_failed (λ (r : Result Status Failed).
    TellsWhy rules value side kept decider c.args.number r old new)
    c.from_residual-in_err-wrong.result c.from_residual-in_err-wrong.ensures.0
    (λ d. behind_failed rules value side kept decider c.args.number c.in_err-wrong.field-0.0 d old
    first new (subst (λ (n : ℕ). TookText (kept_line side n) old first) c.entry.ensures
    c.in_ok-write_kept_line.ensures.ok) c.in_err-wrong.ensures.told)

pub returns-in_err-write_wrong_entry-clause-told :
    goal.returns-in_err-write_wrong_entry-clause-told
returns-in_err-write_wrong_entry-clause-told g c =
    let game = c.args.game.now in
    let rules = game.rules.now in
    let value = g.B.ExitBook.value_at game.book.now in
    let side = c.args.side in
    let kept = g.E.Entries.codes c.args.entries.now in
    let deciding = c.args.deciding.now in
    let decider = decider_of deciding.leans deciding.numbers.now deciding.rules.now
    (map loaded_back deciding.backs.now) in
    let old = sink_of g.O.Sink c.args.out.now in
    let first = sink_of g.O.Sink c.write_kept_line.new.out in
    let second = sink_of g.O.Sink c.tell_behind.new.out in
    let new = sink_of g.O.Sink c.write_wrong_entry.new.out in
    as_failed (λ (r : Result Status Failed).
    TellsWhy rules value side kept decider c.args.number r old new)
    c.from_residual-in_err-write_wrong_entry.result
    c.from_residual-in_err-write_wrong_entry.ensures.0
    (λ d. last_failed rules value side kept decider c.args.number d c.in_ok-wrong.wrong old first
    second new (subst (λ (n : ℕ). TookText (kept_line side n) old first) c.entry.ensures
    c.in_ok-write_kept_line.ensures.ok) c.in_ok-wrong.ensures.told
    c.in_err-write_wrong_entry.ensures.failed)
