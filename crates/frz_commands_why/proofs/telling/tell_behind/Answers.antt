use Rattle.std.proofs.Common.{◌≡◌, ap, sym, ◌∙◌, true, false, slice_index}
use Rattle.std.specs.Prelude.{map}
use Rattle.frz_store.specs.Told.{sink_of}
use Rattle.frz_arena.specs.Codes.{is_win}
use Rattle.frz_backs.specs.FileOn.{loaded_back}
use Rattle.frz_commands_why.specs.Deciders.{decider_of}
use Rattle.frz_commands_why.proofs.Told.{behind_failure, broken_told, left_failing, win_told}
use Rattle.frz_commands_why.proofs.telling.tell_behind.Goals as goal

pub returns-then-is_win-clause-told : goal.returns-then-is_win-clause-told
returns-then-is_win-clause-told g c =
    let game = c.args.game.now in
    let kept = g.E.Entries.codes c.args.entries.now in
    let deciding = c.args.deciding.now in
    let win : is_win (slice_index (kept c.args.side) c.args.number) ≡ true =
    ap is_win (sym c.entry-code.ensures) ∙ sym c.is_win.ensures ∙ c.if-is_win.true in
    win_told game.rules.now (g.B.ExitBook.value_at game.book.now) c.args.side kept
    (decider_of deciding.leans deciding.numbers.now deciding.rules.now (map loaded_back deciding.backs.now))
    c.args.number win (sink_of g.O.Sink c.args.out.now)

pub returns-then-code-eq0-clause-told : goal.returns-then-code-eq0-clause-told
returns-then-code-eq0-clause-told g c =
    let game = c.args.game.now in
    let kept = g.E.Entries.codes c.args.entries.now in
    let deciding = c.args.deciding.now in
    broken_told game.rules.now (g.B.ExitBook.value_at game.book.now) c.args.side kept
    (decider_of deciding.leans deciding.numbers.now deciding.rules.now (map loaded_back deciding.backs.now))
    c.args.number (sym c.entry-code.ensures ∙ c.if-code-eq0.true) c.wrong_entry.result
    c.wrong_entry.ensures.wrong (sink_of g.O.Sink c.args.out.now)

pub returns-clause-told : goal.returns-clause-told
returns-clause-told g c =
    let game = c.args.game.now in
    let kept = g.E.Entries.codes c.args.entries.now in
    let deciding = c.args.deciding.now in
    let code = slice_index (kept c.args.side) c.args.number in
    let loses : is_win code ≡ false =
    ap is_win (sym c.entry-code.ensures) ∙ sym c.is_win.ensures ∙ c.if-is_win.false in
    behind_failure game.rules.now (g.B.ExitBook.value_at game.book.now) c.args.side kept
    (decider_of deciding.leans deciding.numbers.now deciding.rules.now (map loaded_back deciding.backs.now))
    c.args.number
    (left_failing code loses (λ h. c.if-code-eq1.false (c.entry-code.ensures ∙ h))
    (λ h. c.if-code-eq0.false (c.entry-code.ensures ∙ h))) c.tell_failure.result
    (sink_of g.O.Sink c.args.out.now) (sink_of g.O.Sink c.tell_failure.new.out)
    c.tell_failure.ensures.told
