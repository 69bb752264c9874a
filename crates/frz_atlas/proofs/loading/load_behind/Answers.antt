use Rattle.std.proofs.Common.{arith, rules}
use Rattle.std.specs.String.{string_bytes}
use Rattle.std.proofs.lemmas.Result.{err_from_is_err_and}
use Rattle.frz_store.specs.Told.{store_of}
use Rattle.frz_table.proofs.Lemmas.{fine_after, quiet_after}
use Rattle.frz_atlas.specs.Causes.{back_fault}
use Rattle.frz_atlas.specs.Loading.{IsOneUnopened}
use Rattle.frz_atlas.specs.declared.fault.AtlasFault.TheVariants as atlas
use Rattle.frz_atlas.specs.declared.fault.BackFault.TheVariants.{Refused}
use Rattle.frz_atlas.proofs.LoadedAll.{Opens, loaded_found, loads_all, refused_next, refuses_to_load}
use Rattle.frz_atlas.proofs.Several.{found_all, found_next, many_found, none_found, refused_here, wanted_here}
use Rattle.frz_atlas.proofs.loading.load_behind.Goals as goal

pub loop-place-init : goal.loop-place-init
loop-place-init g c = record {
  many = search rules;
  loaded = rw c.new-backs.ensures.items (none_found Opens _ _);
  quiet = search rules;
  fine = search rules;
}

pub returns-in-Err-clause-refused : goal.returns-in-Err-clause-refused
returns-in-Err-clause-refused g c =
    let found = c.loop-place.invariant.loaded in
    let e = c.in-Err.ensures.refused in
    rw c.of_back.ensures
    (refuses_to_load _ _ _ _
    (refused_here Opens string_bytes c.args.names.now c.loop-place.place c.index-names-place.result
    c.deref.result.now c.loop-place.backs.items (store_of g.S.Store c.args.store.now)
    (store_of g.S.Store c.loop-place.store) (store_of g.S.Store c.load_own.new.store)
    0 0 0 c.loop-place-test.true
    c.index-names-place.is c.deref.ensures c.loop-place.invariant.loaded
    c.loop-place.invariant.quiet.unwritten.files
    (λ helds. IsOneUnopened helds (back_fault c.loop-place.place (Refused c.in-Err.fault)))
    e.held e.may (record { steps = omega arith; asked = e.within.asked; calls = e.within.calls })
    (λ rest. refused_next found.tables c.loop-place.place c.in-Err.fault e.held rest found.good
    (many_found c.loop-place.backs.items found.tables c.loop-place.place found.keeps
    c.loop-place.invariant.many) e.refuses)))

pub returns-in_err-push-clause-refused : goal.returns-in_err-push-clause-refused
returns-in_err-push-clause-refused g c =
    let p = err_from_is_err_and c.from_residual.result c.from_residual.ensures.1 in
    rw (p.1, p.2)
    (refuses_to_load _ _ _ _
    (wanted_here Opens string_bytes c.args.names.now c.loop-place.place c.index-names-place.result
    c.deref.result.now c.loop-place.backs.items (store_of g.S.Store c.args.store.now)
    (store_of g.S.Store c.loop-place.store) (store_of g.S.Store c.load_own.new.store)
    0 0 0 c.loop-place-test.true
    c.index-names-place.is c.deref.ensures c.loop-place.invariant.loaded
    c.loop-place.invariant.quiet.unwritten.files
    (λ helds. IsOneUnopened helds atlas.NoMemory) (λ helds. tt) c.in-Ok.back
    (loaded_found _ _ _ _ _ c.in-Ok.ensures.loaded)))

pub loop-place-preserved : goal.loop-place-preserved
loop-place-preserved g c = record {
  many = search rules;
  loaded =
      found_next Opens string_bytes c.args.names.now c.loop-place.place c.index-names-place.result
      c.deref.result.now c.loop-place.backs.items (store_of g.S.Store c.args.store.now)
      (store_of g.S.Store c.loop-place.store) (store_of g.S.Store c.load_own.new.store)
      0 0 0 c.loop-place-test.true
      c.index-names-place.is c.deref.ensures c.loop-place.invariant.loaded
      c.loop-place.invariant.quiet.unwritten.files
      c.in-Ok.back c.push.new.self.items c.in_ok-push.ensures.items
      (loaded_found _ _ _ _ _ c.in-Ok.ensures.loaded);
  quiet = quiet_after _ _ _ c.loop-place.invariant.quiet c.in-Ok.ensures.quiet;
  fine = fine_after _ _ _ c.loop-place.invariant.fine c.in-Ok.ensures.cause;
}

pub returns-clause-loaded : goal.returns-clause-loaded
returns-clause-loaded g c =
    loads_all _ _ _ _
    (found_all Opens string_bytes c.args.names.now c.loop-place.place _ _ _ _ _
    c.loop-place-test.false c.loop-place.invariant.loaded)
