use Rattle.std.proofs.Common.{◌∙◌, ap₂, subst}
use Rattle.frz_board.specs.Boards.{Board}
use Rattle.frz_sets.specs.declared.exit.Value.{Value}
use Rattle.frz_build.specs.Verdict.TheVariants.{Exact, Wrong}
use Rattle.frz_build.specs.Kept.{ChecksTable}
use Rattle.frz_chain.specs.Books.{chain_value}
use Rattle.frz_chain.proofs.checking.check_over.Goals as goal

pub returns-in-Ok-Exact-clause-verdict : goal.returns-in-Ok-Exact-clause-verdict
returns-in-Ok-Exact-clause-verdict g c =
    subst (λ (value : Board → Value). ChecksTable (g.S.Store.files c.args.store.now)
    c.args.table.now value Exact)
    (ap₂ chain_value (c.behind-book.ensures.rules ∙ c.rules.ensures.rules)
    c.behind-book.ensures.back)
    (rw c.in-Ok-Exact.field-0-is at c.in-Ok-Exact.ensures.verdict)

pub returns-in-Ok-Wrong-clause-verdict : goal.returns-in-Ok-Wrong-clause-verdict
returns-in-Ok-Wrong-clause-verdict g c =
    subst (λ (value : Board → Value). ChecksTable (g.S.Store.files c.args.store.now)
    c.args.table.now value (Wrong c.in-Ok-Wrong.wrong))
    (ap₂ chain_value (c.behind-book.ensures.rules ∙ c.rules.ensures.rules)
    c.behind-book.ensures.back)
    (rw c.in-Ok-Wrong.field-0-is at c.in-Ok-Wrong.ensures.verdict)
