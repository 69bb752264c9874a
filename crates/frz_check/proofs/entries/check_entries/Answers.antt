use Rattle.frz_check.proofs.OneVerdict.{by_tables, exact_verdict}
use Rattle.frz_check.proofs.entries.check_entries.Goals as goal

pub check_numbers-requires-clause-sound : goal.check_numbers-requires-clause-sound
check_numbers-requires-clause-sound g c =
    let game = c.args.game.now in
    c.numbered.ensures.finite game.rules.now (g.B.ExitBook.value_at game.book.now)
    (g.met.B.ExitBook.small game.book.now) c.requires.sound.size

pub returns-clause-verdict : goal.returns-clause-verdict
returns-clause-verdict g c =
    let game = c.args.game.now in
    by_tables game.rules.now (g.B.ExitBook.value_at game.book.now)
    (g.E.Entries.codes c.args.entries.now) c.check_numbers.result c.check_numbers.ensures.verdict

pub returns-clause-exact : goal.returns-clause-exact
returns-clause-exact g c =
    let game = c.args.game.now in
    let value = g.B.ExitBook.value_at game.book.now in
    let codes = g.E.Entries.codes c.args.entries.now in
    exact_verdict game.rules.now value (c.tables.ensures.exact game.rules.now value) codes
    c.check_numbers.result
    (by_tables game.rules.now value codes c.check_numbers.result c.check_numbers.ensures.verdict)
