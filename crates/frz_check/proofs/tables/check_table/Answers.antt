use Rattle.std.proofs.Common.{◌∙◌}
use Rattle.frz_store.specs.Told.{store_of}
use Rattle.frz_table.specs.Faults.{IsOutside}
use Rattle.frz_game.specs.Books.{value_by}
use Rattle.frz_check.specs.Kept.{ChecksFile, ChecksTable, RefusesFile}
use Rattle.frz_check.proofs.FileChecks.{file_checked, file_not_loaded, if_given, if_refused}
use Rattle.frz_check.proofs.tables.check_table.Goals as goal

pub returns-clause-verdict : goal.returns-clause-verdict
returns-clause-verdict g c =
    let table = c.in_ok-table.table in
    let files = g.S.Store.files c.open_table.new.store in
    let old = store_of g.S.Store c.args.store.now in
    let mid = store_of g.S.Store c.open_table.new.store in
    let new = store_of g.S.Store c.check_kept.new.store in
    if_given (ChecksTable files table (λ q. value_by c.new-book.result.rules.now q))
    (ChecksFile c.args.name.now old new c.args.steps.now c.check_kept.new.steps) c.check_kept.result
    (λ v h. file_checked files table c.new-book.result.rules.now c.args.name.now old mid new
    c.args.steps.now c.check_kept.new.steps v
    c.open_table.ensures.quiet.unwritten.files c.in_ok-table.ensures.kind c.in_ok-table.ensures.name
    (c.new-book.ensures ∙ c.rules.ensures.rules) c.rules.ensures.read
    c.in_ok-table.ensures.asked c.open_table.ensures.calls c.check_kept.ensures.asked
    c.check_kept.ensures.calls c.check_kept.ensures.steps h)
    c.check_kept.ensures.verdict

pub returns-clause-refused : goal.returns-clause-refused
returns-clause-refused g c =
    let table = c.in_ok-table.table in
    let old = store_of g.S.Store c.args.store.now in
    let mid = store_of g.S.Store c.open_table.new.store in
    let new = store_of g.S.Store c.check_kept.new.store in
    if_refused IsOutside
    (RefusesFile c.args.name.now old new c.args.steps.now c.check_kept.new.steps)
    c.check_kept.result
    (λ f outside. file_not_loaded table c.args.name.now old mid new c.args.steps.now
    c.check_kept.new.steps f
    c.in_ok-table.ensures.may_open c.in_ok-table.ensures.asked c.open_table.ensures.calls
    c.check_kept.ensures.asked c.check_kept.ensures.calls c.check_kept.ensures.steps outside)
    c.check_kept.ensures.outside
