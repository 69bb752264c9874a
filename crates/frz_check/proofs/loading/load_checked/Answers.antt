use Rattle.frz_check.proofs.FileChecks.{moved_verdict, table_checked}
use Rattle.frz_check.specs.Verdicts.{IsVerdict}
use Rattle.frz_game.specs.EntryCodes.{of_side}
use Rattle.frz_check.proofs.loading.load_checked.Given.{Over}
use Rattle.frz_check.proofs.loading.load_checked.Goals as goal
use Rattle.frz_check.proofs.loading.load_checked.Goals.{After-check_entries-verdict}

-- the verdict on the lists that were loaded
on_lists : (g : Over) (c : After-check_entries-verdict g)
    → IsVerdict c.args.table.now.rules (g.B.ExitBook.value_at c.args.book.now)
    (λ side. of_side side c.in_ok-white.white.items c.in_ok-white.black.items)
    c.check_entries-verdict.result
on_lists g c =
    moved_verdict c.rules.result.now c.args.table.now.rules
    (g.B.ExitBook.value_at c.args.book.now) c.in_ok-white.white.items c.in_ok-white.black.items
    c.as_slice.result.now c.as_slice-2.result.now c.check_entries-verdict.result
    c.rules.ensures.rules c.as_slice.ensures.value c.as_slice-2.ensures.value
    c.check_entries-verdict.ensures.verdict

pub returns-clause-verdict : goal.returns-clause-verdict
returns-clause-verdict g c = on_lists g (goal.at.returns-clause-verdict g c).After-check_entries-verdict

pub returns-clause-checks : goal.returns-clause-checks
returns-clause-checks g c =
    let table = c.args.table.now in
    let value = g.B.ExitBook.value_at c.args.book.now in
    table_checked (g.S.Store.files c.args.store.now) table value c.in_ok-white.white.items
    c.in_ok-white.black.items c.check_entries-verdict.result
    (g.met.S.Store.holds_bytes c.args.store.now) (c.tables.ensures.exact table.rules value)
    (c.tables.ensures.plies table.rules value (g.met.B.ExitBook.small c.args.book.now))
    c.rules.ensures.read c.in_ok-white.ensures.may_keep
    (on_lists g (goal.at.returns-clause-checks g c).After-check_entries-verdict)
