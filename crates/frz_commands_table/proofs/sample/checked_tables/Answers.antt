use Rattle.std.proofs.Common.{◌≡◌, sym, subst, ◌∙◌, ℕ, List}
use Rattle.frz_board.specs.declared.man.Colour.TheVariants.{White, Black}
use Rattle.frz_game.specs.Bounds.{IsTableOf}
use Rattle.frz_check.specs.declared.verdict.Verdict.TheVariants.{Wrong, Exact}
use Rattle.frz_commands_table.proofs.SampleOnce.{either_table}
use Rattle.frz_commands_table.proofs.sample.checked_tables.Goals as goal

-- both tables are exact, so the checker finds no wrong entry
pub unreachable-requires : goal.unreachable-requires
unreachable-requires g c =
    let rules = c.args.game.now.rules.now in
    let value = g.B.ExitBook.value_at c.args.game.now.book.now in
    let kept : c.deref.result.now ≡ c.run_game.new.self = c.deref.ensures.value
    ∙ c.in-Ok.ensures.items_if_clones_equal (λ x y same. same) ∙ c.entries.ensures in
    let white : IsTableOf rules value White c.deref.result.now = subst
    (λ (l : List ℕ). IsTableOf rules value White l) (sym kept) c.run_game.ensures.table in
    let black : IsTableOf rules value Black c.entries-2.result.now = subst
    (λ (l : List ℕ). IsTableOf rules value Black l) (sym c.entries-2.ensures)
    c.run_game-2.ensures.table in
    let exact : Wrong c.in-Wrong.field-0 ≡ Exact = c.in-Wrong.ensures.exact.1
    (either_table rules value c.deref.result.now c.entries-2.result.now white black) in cc
