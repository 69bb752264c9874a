use Rattle.std.proofs.Common.{◌≡◌, ◌≤◌, ◌+◌, ◌*◌, ℕ, List, map, IfOk, sym, subst}
use Rattle.frz_board.specs.declared.man.Colour.TheVariants.{White, Black}
use Rattle.frz_sets.specs.Sound.{IsSound}
use Rattle.frz_sets.specs.Views.{RuleLines}
use Rattle.frz_game.specs.Games.{graph_by}
use Rattle.frz_game.proofs.Lemmas.{finite}
use Rattle.frz_table.specs.Tables.{table_size}
use Rattle.frz_ways.specs.Costs.{arms_reads}
use Rattle.frz_ways.specs.Kept.{told_codes, MayRead}
use Rattle.frz_commands_atlas.specs.MoveRows.{row_by}
use Rattle.frz_commands_atlas.proofs.rows.rows_over.Goals as goal

pub rows_by-requires-clause-sound : goal.rows_by-requires-clause-sound
rows_by-requires-clause-sound g c =
    let sound = subst IsSound (sym c.rules-rules.ensures.rules) c.rules-rules.ensures.sound in
    finite c.rules-rules.result.now (g.B.ExitBook.value_at c.args.book.now)
    (λ q valid. g.met.B.ExitBook.small c.args.book.now q valid) sound.size

pub rows_by-requires-clause-different : goal.rows_by-requires-clause-different
rows_by-requires-clause-different g c = λ i k l n.
    c.different_arms.ensures c.rules-rules.result.now
    (g.B.ExitBook.value_at c.args.book.now) i k l n

pub returns-clause-rows : goal.returns-clause-rows
returns-clause-rows g c =
    let table = c.args.table.now in
    let files = g.S.Store.files c.args.store.now in
    subst (λ (r : RuleLines). IfOk c.rows_by.result (λ rows. (white black : List ℕ)
    × MayRead (told_codes table White files) (table_size table) white
    × MayRead (told_codes table Black files) (table_size table) black
    × (rows.items ≡ map (row_by white black)
    ((graph_by r (g.B.ExitBook.value_at c.args.book.now)).arms c.args.number))))
    c.rules-rules.ensures.rules c.rows_by.ensures.rows

pub returns-clause-asked : goal.returns-clause-asked
returns-clause-asked g c =
    subst (λ (r : RuleLines). g.S.Store.asked c.rows_by.new.store
    ≤ g.S.Store.asked c.args.store.now + 8 * arms_reads
    ((graph_by r (g.B.ExitBook.value_at c.args.book.now)).arms c.args.number))
    c.rules-rules.ensures.rules c.rows_by.ensures.asked

pub returns-clause-calls : goal.returns-clause-calls
returns-clause-calls g c =
    subst (λ (r : RuleLines). g.S.Store.calls c.rows_by.new.store
    ≤ g.S.Store.calls c.args.store.now + 2 * arms_reads
    ((graph_by r (g.B.ExitBook.value_at c.args.book.now)).arms c.args.number))
    c.rules-rules.ensures.rules c.rows_by.ensures.calls
