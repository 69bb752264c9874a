use Rattle.std.proofs.Common.{◌≡◌, ℕ, true, false, Option, None, Result, ap, sym, ◌∙◌, subst, slice_index}
use Rattle.std.specs.Prelude.{map}
use Rattle.frz_store.specs.declared.outside.Failed.{Failed}
use Rattle.frz_store.specs.Told.{sink_of}
use Rattle.frz_answer.specs.Texts.{FailedWithin, TookText}
use Rattle.frz_arena.specs.Codes.{is_failure}
use Rattle.frz_backs.specs.FileOn.{loaded_back}
use Rattle.frz_bound_lines.specs.BoundLines.{kept_line}
use Rattle.frz_game.specs.declared.wrong.Wrong.{Wrong}
use Rattle.frz_commands_why.specs.Deciders.{decider_of}
use Rattle.frz_commands_why.specs.Telling.{TellsSo, ToldOpponent}
use Rattle.frz_commands_why.proofs.OneTelling.{failing_there}
use Rattle.frz_commands_why.proofs.Told.{as_failed, opponent_bound, opponent_failed, opponent_told}
use Rattle.frz_commands_why.proofs.telling.tell_opponent.Goals as goal

pub returns-then-not-is_failure-clause-told : goal.returns-then-not-is_failure-clause-told
returns-then-not-is_failure-clause-told g c =
    let game = c.args.game.now in
    let rules = game.rules.now in
    let value = g.B.ExitBook.value_at game.book.now in
    let codes = g.E.Entries.codes c.args.entries.now c.args.opponent in
    let deciding = c.args.deciding.now in
    let decider = decider_of deciding.leans deciding.numbers.now deciding.rules.now
    (map loaded_back deciding.backs.now) in
    let stays : is_failure (slice_index codes c.args.number) ≡ false =
    ap is_failure (sym c.entry-code.ensures) ∙ sym c.is_failure.ensures
    ∙ c.if-not-is_failure.true in
    opponent_bound rules value c.args.opponent codes decider c.args.number stays
    (sink_of g.O.Sink c.args.out.now)

pub returns-in_err-write_kept_line-clause-told : goal.returns-in_err-write_kept_line-clause-told
returns-in_err-write_kept_line-clause-told g c =
    let game = c.args.game.now in
    let rules = game.rules.now in
    let value = g.B.ExitBook.value_at game.book.now in
    let who = c.args.opponent in
    let codes = g.E.Entries.codes c.args.entries.now who in
    let deciding = c.args.deciding.now in
    let decider = decider_of deciding.leans deciding.numbers.now deciding.rules.now
    (map loaded_back deciding.backs.now) in
    let old = sink_of g.O.Sink c.args.out.now in
    let new = sink_of g.O.Sink c.write_kept_line.new.out in
    let failing : is_failure (slice_index codes c.args.number) ≡ true =
    ap is_failure (sym c.entry-code.ensures) ∙ sym c.is_failure.ensures
    ∙ c.if-not-is_failure.false in
    let tale = failing_there rules value who codes decider c.args.number
    c.one_failing_way.ensures.there failing in
    as_failed (λ (r : Result (Option Wrong) Failed).
    TellsSo (ToldOpponent rules value who codes decider c.args.number None) r old new)
    c.from_residual.result c.from_residual.ensures.0
    (λ d. opponent_failed rules value who codes decider c.args.number failing tale d old new
    (subst (λ (n : ℕ). FailedWithin (kept_line who n) old new) c.entry-code.ensures
    c.in_err-write_kept_line.ensures.failed))

pub returns-clause-told : goal.returns-clause-told
returns-clause-told g c =
    let game = c.args.game.now in
    let rules = game.rules.now in
    let value = g.B.ExitBook.value_at game.book.now in
    let who = c.args.opponent in
    let codes = g.E.Entries.codes c.args.entries.now who in
    let deciding = c.args.deciding.now in
    let decider = decider_of deciding.leans deciding.numbers.now deciding.rules.now
    (map loaded_back deciding.backs.now) in
    let old = sink_of g.O.Sink c.args.out.now in
    let mid = sink_of g.O.Sink c.write_kept_line.new.out in
    let new = sink_of g.O.Sink c.tell_failure.new.out in
    let failing : is_failure (slice_index codes c.args.number) ≡ true =
    ap is_failure (sym c.entry-code.ensures) ∙ sym c.is_failure.ensures
    ∙ c.if-not-is_failure.false in
    opponent_told rules value who codes decider c.args.number failing c.tell_failure.result old mid
    new (subst (λ (n : ℕ). TookText (kept_line who n) old mid) c.entry-code.ensures
    c.in_ok-write_kept_line.ensures.ok) c.tell_failure.ensures.told
