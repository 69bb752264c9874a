use Rattle.std.proofs.Common.{arith}
use Rattle.std.proofs.lemmas.Result.{err_from_is_err_and}
use Rattle.std.specs.Prelude.{map}
use Rattle.std.specs.String.{string_bytes}
use Rattle.frz_store.specs.Told.{store_of}
use Rattle.frz_table.proofs.Lemmas.{refused_as}
use Rattle.frz_commands_verdict.specs.Finding.{RefusesOne}
use Rattle.frz_commands_verdict.proofs.Found.{memory_wanted, refused_first, verdict_is_found}
use Rattle.frz_commands_verdict.proofs.finding.find.Goals as goal

pub returns-in_err-tables-clause-refused : goal.returns-in_err-tables-clause-refused
returns-in_err-tables-clause-refused g c =
    let table = c.args.table.now in
    let behind = map string_bytes c.args.behind.now in
    let old = store_of g.S.Store c.args.store.now in
    let new = store_of g.S.Store c.open_all.new.store in
    refused_as (RefusesOne table behind old new c.args.steps.now c.open_all.new.steps)
    c.from_residual.result _ c.from_residual.ensures.1
    (refused_first table behind c.args.p.now old new c.args.steps.now c.open_all.new.steps
    c.open_all.new.steps c.in_err-tables.field-0.0 c.in_err-tables.ensures.refused (omega arith))

pub returns-in_err-tell-clause-refused : goal.returns-in_err-tell-clause-refused
returns-in_err-tell-clause-refused g c =
    let p = err_from_is_err_and c.from_residual-in_err-tell.result
    c.from_residual-in_err-tell.ensures.1 in
    let steps = rw c.deref.ensures.value at c.in_err-tell.ensures.steps in
    rw (p.1, p.2)
    (memory_wanted c.args.table.now (map string_bytes c.args.behind.now) c.args.p.now
    (store_of g.S.Store c.args.store.now) (store_of g.S.Store c.open_all.new.store)
    c.args.steps.now c.open_all.new.steps c.tell.new.steps c.in_ok-tables.tables.items
    c.in_ok-tables.ensures.opened steps)

pub returns-clause-found : goal.returns-clause-found
returns-clause-found g c =
    let steps = rw c.deref.ensures.value at c.in_ok-tell.ensures.steps in
    let told = rw c.deref.ensures.value at c.in_ok-tell.ensures.told in
    verdict_is_found c.args.table.now (map string_bytes c.args.behind.now) c.args.p.now
    (store_of g.S.Store c.args.store.now) (store_of g.S.Store c.open_all.new.store)
    c.args.steps.now c.open_all.new.steps c.tell.new.steps c.in_ok-tables.tables.items
    c.in_ok-tables.ensures.opened steps c.in_ok-tell.field-0 told
