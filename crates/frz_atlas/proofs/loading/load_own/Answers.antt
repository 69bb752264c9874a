use Rattle.std.proofs.lemmas.Result.{err_from_is_err_and}
use Rattle.frz_store.specs.Told.{store_of}
use Rattle.frz_atlas.proofs.TableLoaded.{loaded_one, not_loaded}
use Rattle.frz_atlas.proofs.loading.load_own.Goals as goal

pub returns-in_err-white-clause-refused : goal.returns-in_err-white-clause-refused
returns-in_err-white-clause-refused g c =
    let p = err_from_is_err_and c.from_residual-in_err-white.result
    c.from_residual-in_err-white.ensures.1 in
    let opened = c.in_ok-table.ensures in
    let e = c.in_err-white.ensures in
    rw (p.1, p.2)
    (not_loaded c.in_ok-table.table c.args.name.now (store_of g.S.Store c.args.store.now)
    (store_of g.S.Store c.open_own.new.store) (store_of g.S.Store c.load.new.store)
    c.in_err-white.field-0.0 opened.opened opened.asked opened.calls e.asked e.calls e.outside)

pub returns-clause-loaded : goal.returns-clause-loaded
returns-clause-loaded g c =
    let opened = c.in_ok-table.ensures in
    let e = c.in_ok-white.ensures in
    loaded_one _ c.args.name.now (store_of g.S.Store c.args.store.now)
    (store_of g.S.Store c.open_own.new.store) (store_of g.S.Store c.load.new.store)
    (g.met.S.Store.holds_bytes c.open_own.new.store) e.may_keep opened.quiet.unwritten.files
    opened.kind opened.name opened.opened opened.asked opened.calls e.asked e.calls
