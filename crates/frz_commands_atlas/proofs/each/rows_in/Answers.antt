use Rattle.std.proofs.Common.{arith, map, rules}
use Rattle.frz_atlas.specs.FileOn.{loaded_back}
use Rattle.frz_atlas.specs.Links.{value_over}
use Rattle.frz_atlas.specs.Loaded.{leans_as}
use Rattle.frz_commands_atlas.proofs.RowsRead.{below_size, no_rows, rows_read, staying_there}
use Rattle.frz_commands_atlas.proofs.each.rows_in.Goals as goal

pub read_rows-requires-clause-inside : goal.read_rows-requires-clause-inside
read_rows-requires-clause-inside g c =
    below_size c.args.table.now.rules _ c.set.ensures c.args.p.now c.in_ok-number.number
    c.in_ok-number.ensures

pub returns-clause-rows : goal.returns-clause-rows
returns-clause-rows g c =
    rows_read c.args.table.now (map loaded_back c.args.backs.now) c.args.p.now _ _ c.in_ok-number.number c.set.ensures
    c.in_ok-number.ensures _ c.turn.ensures.turn _ _ c.in_ok-rows.ensures.rows
    c.in_ok-rank_rows.ensures

pub returns-clause-asked : goal.returns-clause-asked
returns-clause-asked g c =
    let table = c.args.table.now in
    let value = value_over (leans_as table.kind) table.rules (map loaded_back c.args.backs.now) in
    let there = staying_there table value _ c.set.ensures c.args.p.now
    c.in_ok-number.number c.in_ok-number.ensures in
    omega (arith, c.in_ok-rows.ensures.asked, there)

pub returns-clause-calls : goal.returns-clause-calls
returns-clause-calls g c =
    let table = c.args.table.now in
    let value = value_over (leans_as table.kind) table.rules (map loaded_back c.args.backs.now) in
    let there = staying_there table value _ c.set.ensures c.args.p.now
    c.in_ok-number.number c.in_ok-number.ensures in
    omega (arith, c.in_ok-rows.ensures.calls, there)

pub returns-in_err-rows-clause-rows : goal.returns-in_err-rows-clause-rows
returns-in_err-rows-clause-rows g c =
    no_rows _ _ _ _ _ c.from_residual-in_err-rows.ensures.0 (search rules)

pub returns-in_err-rows-clause-asked : goal.returns-in_err-rows-clause-asked
returns-in_err-rows-clause-asked g c =
    let table = c.args.table.now in
    let value = value_over (leans_as table.kind) table.rules (map loaded_back c.args.backs.now) in
    let there = staying_there table value _ c.set.ensures c.args.p.now
    c.in_ok-number.number c.in_ok-number.ensures in
    omega (arith, c.in_err-rows.ensures.asked, there)

pub returns-in_err-rows-clause-calls : goal.returns-in_err-rows-clause-calls
returns-in_err-rows-clause-calls g c =
    let table = c.args.table.now in
    let value = value_over (leans_as table.kind) table.rules (map loaded_back c.args.backs.now) in
    let there = staying_there table value _ c.set.ensures c.args.p.now
    c.in_ok-number.number c.in_ok-number.ensures in
    omega (arith, c.in_err-rows.ensures.calls, there)

pub returns-in_err-rank_rows-clause-asked : goal.returns-in_err-rank_rows-clause-asked
returns-in_err-rank_rows-clause-asked g c =
    let table = c.args.table.now in
    let value = value_over (leans_as table.kind) table.rules (map loaded_back c.args.backs.now) in
    let there = staying_there table value _ c.set.ensures c.args.p.now
    c.in_ok-number.number c.in_ok-number.ensures in
    omega (arith, c.in_ok-rows.ensures.asked, there)

pub returns-in_err-rank_rows-clause-calls : goal.returns-in_err-rank_rows-clause-calls
returns-in_err-rank_rows-clause-calls g c =
    let table = c.args.table.now in
    let value = value_over (leans_as table.kind) table.rules (map loaded_back c.args.backs.now) in
    let there = staying_there table value _ c.set.ensures c.args.p.now
    c.in_ok-number.number c.in_ok-number.ensures in
    omega (arith, c.in_ok-rows.ensures.calls, there)
