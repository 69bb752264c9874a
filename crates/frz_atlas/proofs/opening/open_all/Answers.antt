use Rattle.std.proofs.Common.{rules, sym, subst}
use Rattle.std.specs.Prelude.{List, map, ◌++◌, ◌∷◌, []}
use Rattle.std.specs.String.{string_bytes}
use Rattle.std.proofs.lemmas.Result.{err_from_is_err_and}
use Rattle.frz_store.specs.Told.{store_of}
use Rattle.frz_table.proofs.Lemmas.{refused_as}
use Rattle.frz_backs.specs.BackTable.{BackTable}
use Rattle.frz_atlas.specs.Opening.{OpensAll, RefusesAll}
use Rattle.frz_atlas.proofs.OneMore.{last_open, last_refused, last_wanted, refused_among}
use Rattle.frz_atlas.proofs.opening.open_all.Goals as goal

pub returns-in_err-tables-clause-refused : goal.returns-in_err-tables-clause-refused
returns-in_err-tables-clause-refused g c =
    let names = map string_bytes c.args.names.now in
    let old = store_of g.S.Store c.args.store.now in
    let new = store_of g.S.Store c.open_behind.new.store in
    refused_as (RefusesAll (names ++ (c.args.last.now ∷ [])) old new c.args.steps.now
    c.open_behind.new.steps) c.from_residual.result _ c.from_residual.ensures.1
    (refused_among names (c.args.last.now ∷ []) old new c.args.steps.now c.open_behind.new.steps
    c.in_err-tables.field-0.0 c.in_err-tables.ensures.refused)

pub returns-in-Err-clause-refused : goal.returns-in-Err-clause-refused
returns-in-Err-clause-refused g c =
    let names = map string_bytes c.args.names.now in
    let items = c.in_ok-tables.tables.items in
    let old = store_of g.S.Store c.args.store.now in
    let mid = store_of g.S.Store c.open_behind.new.store in
    let new = store_of g.S.Store c.open_over.new.store in
    let e = c.in_ok-tables.ensures in
    rw c.of_back.ensures
    (last_refused names c.args.last.now items c.deref.result.now old mid new c.args.steps.now
    c.open_behind.new.steps c.open_over.new.steps c.deref.ensures.value e.opened
    e.quiet.unwritten.files c.len.result c.in-Err.fault (search rules) c.in-Err.ensures.refused)

pub returns-in_err-push-clause-refused : goal.returns-in_err-push-clause-refused
returns-in_err-push-clause-refused g c =
    let names = map string_bytes c.args.names.now in
    let items = c.in_ok-tables.tables.items in
    let old = store_of g.S.Store c.args.store.now in
    let mid = store_of g.S.Store c.open_behind.new.store in
    let new = store_of g.S.Store c.open_over.new.store in
    let e = c.in_ok-tables.ensures in
    let p = err_from_is_err_and c.from_residual-in_err-push.result
    c.from_residual-in_err-push.ensures.1 in
    rw (p.1, p.2)
    (last_wanted names c.args.last.now items c.deref.result.now old mid new c.args.steps.now
    c.open_behind.new.steps c.open_over.new.steps c.deref.ensures.value e.opened
    e.quiet.unwritten.files c.in-Ok.table c.in-Ok.ensures.opened)

pub returns-clause-opened : goal.returns-clause-opened
returns-clause-opened g c =
    let names = map string_bytes c.args.names.now in
    let items = c.in_ok-tables.tables.items in
    let old = store_of g.S.Store c.args.store.now in
    let mid = store_of g.S.Store c.open_behind.new.store in
    let new = store_of g.S.Store c.open_over.new.store in
    let e = c.in_ok-tables.ensures in
    subst (λ (l : List BackTable). OpensAll (names ++ (c.args.last.now ∷ [])) l old new
    c.args.steps.now c.open_over.new.steps) (sym c.in_ok-push.ensures.items)
    (last_open names c.args.last.now items c.deref.result.now old mid new c.args.steps.now
    c.open_behind.new.steps c.open_over.new.steps c.deref.ensures.value e.opened
    e.quiet.unwritten.files c.in-Ok.table c.in-Ok.ensures.opened)
