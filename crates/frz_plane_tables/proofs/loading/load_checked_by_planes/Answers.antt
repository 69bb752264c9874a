use Rattle.frz_check.specs.Verdicts.{IsVerdict}
use Rattle.frz_game.specs.EntryCodes.{of_side}
use Rattle.frz_plane_tables.proofs.KeptCodes.{moved_lists, table_checked}
use Rattle.frz_plane_tables.proofs.loading.load_checked_by_planes.Given.{Over}
use Rattle.frz_plane_tables.proofs.loading.load_checked_by_planes.Goals as goal
use Rattle.frz_plane_tables.proofs.loading.load_checked_by_planes.Goals.{After-judge-verdict}

-- the verdict on the lists that were loaded
judged : (g : Over) (c : After-judge-verdict g)
    → IsVerdict c.args.table.now.rules (g.B.ExitBook.value_at c.args.book.now)
    (λ side. of_side side c.in_ok-white.white.items c.in_ok-white.black.items)
    c.judge-verdict.result
judged g c =
    moved_lists c.rules.result.now c.args.table.now.rules (g.B.ExitBook.value_at c.args.book.now)
    c.in_ok-white.white.items c.in_ok-white.black.items c.as_slice.result.now
    c.as_slice-2.result.now c.judge-verdict.result c.rules.ensures.rules c.as_slice.ensures.value
    c.as_slice-2.ensures.value c.judge-verdict.ensures.verdict

pub returns-clause-verdict : goal.returns-clause-verdict
returns-clause-verdict g c = judged g (goal.at.returns-clause-verdict g c).After-judge-verdict

pub returns-clause-checks : goal.returns-clause-checks
returns-clause-checks g c =
    let table = c.args.table.now in
    let value = g.B.ExitBook.value_at c.args.book.now in
    table_checked (g.S.Store.files c.args.store.now) table value c.in_ok-white.white.items
    c.in_ok-white.black.items c.judge-verdict.result
    (g.met.S.Store.holds_bytes c.args.store.now) (c.tables.ensures.exact table.rules value)
    (c.tables.ensures.plies table.rules value (g.met.B.ExitBook.small c.args.book.now))
    c.rules.ensures.read c.in_ok-white.ensures.may_keep
    (judged g (goal.at.returns-clause-checks g c).After-judge-verdict)
