use Rattle.std.proofs.Common.{◌≡◌, ◌≤◌, ◌+◌, ◌*◌, ◌∙◌, ℕ, List, map, IfOk, ap}
use Rattle.frz_board.specs.declared.man.Colour.TheVariants.{White, Black}
use Rattle.frz_game.specs.Games.{graph_by}
use Rattle.frz_table.specs.Tables.{table_size}
use Rattle.frz_atlas.specs.FileOn.{loaded_back}
use Rattle.frz_ways.specs.Costs.{arms_reads}
use Rattle.frz_ways.specs.Kept.{told_codes, MayRead}
use Rattle.frz_commands_atlas.specs.MoveRows.{row_by}
use Rattle.frz_commands_atlas.proofs.ValuesOver.{by_lines, by_tables}
use Rattle.frz_commands_atlas.proofs.rows.read_rows.Goals as goal

pub returns-in-Atlas-clause-rows : goal.returns-in-Atlas-clause-rows
returns-in-Atlas-clause-rows g c =
    let table = c.args.table.now in
    let files = g.S.Store.files c.args.store.now in
    by_tables (λ value. IfOk c.rows_over.result (λ rows. (white black : List ℕ)
    × MayRead (told_codes table White files) (table_size table) white
    × MayRead (told_codes table Black files) (table_size table) black
    × (rows.items ≡ map (row_by white black)
    ((graph_by table.rules value).arms c.args.number)))) table.kind c.new-book.result.rules.now
    table.rules (map loaded_back c.args.backs.now) (map loaded_back c.new-book.result.backs.now)
    c.in-Atlas.ensures (c.new-book.ensures.rules ∙ c.rules-rules.ensures.rules)
    (ap (map loaded_back) c.new-book.ensures.backs) c.rows_over.ensures.rows

pub returns-in-Atlas-clause-asked : goal.returns-in-Atlas-clause-asked
returns-in-Atlas-clause-asked g c =
    let table = c.args.table.now in
    by_tables (λ value. g.S.Store.asked c.rows_over.new.store
    ≤ g.S.Store.asked c.args.store.now + 8 * arms_reads
    ((graph_by table.rules value).arms c.args.number)) table.kind c.new-book.result.rules.now
    table.rules (map loaded_back c.args.backs.now) (map loaded_back c.new-book.result.backs.now)
    c.in-Atlas.ensures (c.new-book.ensures.rules ∙ c.rules-rules.ensures.rules)
    (ap (map loaded_back) c.new-book.ensures.backs) c.rows_over.ensures.asked

pub returns-in-Atlas-clause-calls : goal.returns-in-Atlas-clause-calls
returns-in-Atlas-clause-calls g c =
    let table = c.args.table.now in
    by_tables (λ value. g.S.Store.calls c.rows_over.new.store
    ≤ g.S.Store.calls c.args.store.now + 2 * arms_reads
    ((graph_by table.rules value).arms c.args.number)) table.kind c.new-book.result.rules.now
    table.rules (map loaded_back c.args.backs.now) (map loaded_back c.new-book.result.backs.now)
    c.in-Atlas.ensures (c.new-book.ensures.rules ∙ c.rules-rules.ensures.rules)
    (ap (map loaded_back) c.new-book.ensures.backs) c.rows_over.ensures.calls

pub returns-in_default-clause-rows : goal.returns-in_default-clause-rows
returns-in_default-clause-rows g c =
    let table = c.args.table.now in
    let files = g.S.Store.files c.args.store.now in
    by_lines (λ value. IfOk c.rows_over-in_default.result (λ rows. (white black : List ℕ)
    × MayRead (told_codes table White files) (table_size table) white
    × MayRead (told_codes table Black files) (table_size table) black
    × (rows.items ≡ map (row_by white black)
    ((graph_by table.rules value).arms c.args.number)))) table.kind
    c.new-book-in_default.result.rules.now table.rules (map loaded_back c.args.backs.now)
    (λ e. c.in_default.not-Atlas (c.kind.ensures ∙ e))
    (c.new-book-in_default.ensures ∙ c.rules-rules.ensures.rules)
    c.rows_over-in_default.ensures.rows

pub returns-in_default-clause-asked : goal.returns-in_default-clause-asked
returns-in_default-clause-asked g c =
    let table = c.args.table.now in
    by_lines (λ value. g.S.Store.asked c.rows_over-in_default.new.store
    ≤ g.S.Store.asked c.args.store.now + 8 * arms_reads
    ((graph_by table.rules value).arms c.args.number)) table.kind
    c.new-book-in_default.result.rules.now table.rules (map loaded_back c.args.backs.now)
    (λ e. c.in_default.not-Atlas (c.kind.ensures ∙ e))
    (c.new-book-in_default.ensures ∙ c.rules-rules.ensures.rules)
    c.rows_over-in_default.ensures.asked

pub returns-in_default-clause-calls : goal.returns-in_default-clause-calls
returns-in_default-clause-calls g c =
    let table = c.args.table.now in
    by_lines (λ value. g.S.Store.calls c.rows_over-in_default.new.store
    ≤ g.S.Store.calls c.args.store.now + 2 * arms_reads
    ((graph_by table.rules value).arms c.args.number)) table.kind
    c.new-book-in_default.result.rules.now table.rules (map loaded_back c.args.backs.now)
    (λ e. c.in_default.not-Atlas (c.kind.ensures ∙ e))
    (c.new-book-in_default.ensures ∙ c.rules-rules.ensures.rules)
    c.rows_over-in_default.ensures.calls
