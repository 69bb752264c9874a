use Rattle.std.specs.Prelude.{map}
use Rattle.std.specs.String.{string_bytes}
use Rattle.std.proofs.Common.{sym, subst}
use Rattle.frz_store.specs.Told.{store_of}
use Rattle.frz_table.proofs.Lemmas.{refused_as}
use Rattle.frz_backs.specs.Loaded.{link_loaded}
use Rattle.frz_atlas.specs.Reading.{RefusesToRead}
use Rattle.frz_atlas.specs.declared.fault.AtlasFault.{AtlasFault}
use Rattle.frz_atlas.proofs.AtlasLoaded.{atlas_loaded, back_refused, not_loaded, not_opened}
use Rattle.frz_atlas.proofs.OwnKinds.{own_kind}
use Rattle.frz_atlas.proofs.reading.load_atlas.Goals as goal

pub returns-in-Err-clause-refused : goal.returns-in-Err-clause-refused
returns-in-Err-clause-refused g c =
    let table = c.args.table.now in
    let behind = map string_bytes c.args.behind.now in
    let old = store_of g.S.Store c.args.store.now in
    let new = store_of g.S.Store c.open_own.new.store in
    subst (λ (f : AtlasFault). RefusesToRead table behind old new f) (sym c.of_table.ensures)
    (not_opened table behind old new c.in-Err.fault c.in-Err.ensures.may_refuse)

pub returns-in_err-backs-clause-refused : goal.returns-in_err-backs-clause-refused
returns-in_err-backs-clause-refused g c =
    let table = c.args.table.now in
    let behind = map string_bytes c.args.behind.now in
    let old = store_of g.S.Store c.args.store.now in
    let mid = store_of g.S.Store c.open_own.new.store in
    let new = store_of g.S.Store c.load_behind.new.store in
    let e = c.in-Ok.ensures in
    refused_as (RefusesToRead table behind old new) c.from_residual.result _
    c.from_residual.ensures.1
    (back_refused c.in-Ok.opened table behind old mid e.may_open e.quiet.unwritten.files e.asked
    e.calls new c.in_err-backs.field-0.0 c.in_err-backs.ensures.refused)

pub returns-in-Ok-load-clause-loaded : goal.returns-in-Ok-load-clause-loaded
returns-in-Ok-load-clause-loaded g c =
    let e = c.in-Ok.ensures in
    let b = c.in_ok-backs.ensures in
    let k = c.in-Ok-load.ensures in
    atlas_loaded _ c.args.table.now (map string_bytes c.args.behind.now)
    (store_of g.S.Store c.args.store.now) (store_of g.S.Store c.open_own.new.store)
    (store_of g.S.Store c.load_behind.new.store) (store_of g.S.Store c.load.new.store)
    e.may_open e.quiet.unwritten.files b.quiet.unwritten.files e.asked e.calls (own_kind _ _ _ e.kind) e.name
    b.loaded k.may_keep k.asked k.calls

pub returns-in-Err-load-clause-refused : goal.returns-in-Err-load-clause-refused
returns-in-Err-load-clause-refused g c =
    let table = c.args.table.now in
    let behind = map string_bytes c.args.behind.now in
    let old = store_of g.S.Store c.args.store.now in
    let mid = store_of g.S.Store c.open_own.new.store in
    let then = store_of g.S.Store c.load_behind.new.store in
    let new = store_of g.S.Store c.load.new.store in
    let e = c.in-Ok.ensures in
    let k = c.in-Err-load.ensures in
    subst (λ (f : AtlasFault). RefusesToRead table behind old new f)
    (sym c.of_table-in-Err-load.ensures)
    (not_loaded c.in-Ok.opened table behind old mid e.may_open e.quiet.unwritten.files e.asked
    e.calls (map link_loaded c.in_ok-backs.backs.items) then new c.in-Err-load.fault
    c.in_ok-backs.ensures.loaded k.asked k.calls k.outside)
