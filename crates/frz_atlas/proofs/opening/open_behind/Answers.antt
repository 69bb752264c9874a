use Rattle.std.proofs.Common.{ap, ◌∙◌, arith, map, rules}
use Rattle.std.specs.String.{string_bytes}
use Rattle.std.proofs.lemmas.Result.{err_from_is_err_and}
use Rattle.frz_store.specs.Told.{store_of}
use Rattle.frz_table.proofs.Lemmas.{fine_after, quiet_after}
use Rattle.frz_backs.specs.FileOn.{loaded_back}
use Rattle.frz_atlas.specs.Causes.{back_fault}
use Rattle.frz_atlas.specs.Opening.{IsOneRefused}
use Rattle.frz_atlas.specs.declared.fault.AtlasFault.TheVariants as atlas
use Rattle.frz_atlas.proofs.Behind.{IsJudged, judged_found, opens_all, refused_next, refuses_all}
use Rattle.frz_atlas.proofs.Several.{backs_found, found_all, found_next, many_found, none_found, refused_here, wanted_here}
use Rattle.frz_atlas.proofs.opening.open_behind.Goals as goal

pub loop-place-init : goal.loop-place-init
loop-place-init g c = record {
  many = search rules;
  opened = rw c.new-backs.ensures.items (none_found IsJudged _ _);
  quiet = search rules;
  fine = search rules;
  later = search rules;
}

pub returns-in-Err-clause-refused : goal.returns-in-Err-clause-refused
returns-in-Err-clause-refused g c =
    let found = c.loop-place.invariant.opened in
    let e = c.in-Err.ensures.refused in
    rw c.of_back.ensures
    (refuses_all _ _ _ _ _ _
    (refused_here IsJudged string_bytes c.args.names.now c.loop-place.place c.index-names-place.result
    c.deref.result.now c.loop-place.backs.items (store_of g.S.Store c.args.store.now)
    (store_of g.S.Store c.loop-place.store) (store_of g.S.Store c.open_over.new.store)
    c.args.steps.now c.loop-place.steps c.open_over.new.steps c.loop-place-test.true
    c.index-names-place.is c.deref.ensures c.loop-place.invariant.opened
    c.loop-place.invariant.quiet.unwritten.files
    (λ helds. IsOneRefused helds (back_fault c.loop-place.place c.in-Err.fault))
    e.held e.may e.within
    (λ rest. refused_next found.tables c.loop-place.place
    (map loaded_back c.deref-in-loop-place.result.now) c.in-Err.fault e.held rest found.good
    (many_found c.loop-place.backs.items found.tables c.loop-place.place found.keeps
    c.loop-place.invariant.many)
    (ap (map loaded_back) c.deref-in-loop-place.ensures.value
    ∙ backs_found c.loop-place.backs.items found.tables found.keeps) e.refuses)))

pub returns-in_err-push-clause-refused : goal.returns-in_err-push-clause-refused
returns-in_err-push-clause-refused g c =
    let p = err_from_is_err_and c.from_residual.result c.from_residual.ensures.1 in
    rw (p.1, p.2)
    (refuses_all _ _ _ _ _ _
    (wanted_here IsJudged string_bytes c.args.names.now c.loop-place.place c.index-names-place.result
    c.deref.result.now c.loop-place.backs.items (store_of g.S.Store c.args.store.now)
    (store_of g.S.Store c.loop-place.store) (store_of g.S.Store c.open_over.new.store)
    c.args.steps.now c.loop-place.steps c.open_over.new.steps c.loop-place-test.true
    c.index-names-place.is c.deref.ensures c.loop-place.invariant.opened
    c.loop-place.invariant.quiet.unwritten.files
    (λ helds. IsOneRefused helds atlas.NoMemory) (λ helds. tt) c.in-Ok.back
    (judged_found _ _ _ _ _ _ _ _ (ap (map loaded_back) c.deref-in-loop-place.ensures.value)
    c.in-Ok.ensures.opened)))

pub loop-place-preserved : goal.loop-place-preserved
loop-place-preserved g c = record {
  many = search rules;
  opened =
      found_next IsJudged string_bytes c.args.names.now c.loop-place.place c.index-names-place.result
      c.deref.result.now c.loop-place.backs.items (store_of g.S.Store c.args.store.now)
      (store_of g.S.Store c.loop-place.store) (store_of g.S.Store c.open_over.new.store)
      c.args.steps.now c.loop-place.steps c.open_over.new.steps c.loop-place-test.true
      c.index-names-place.is c.deref.ensures c.loop-place.invariant.opened
      c.loop-place.invariant.quiet.unwritten.files
      c.in-Ok.back c.push.new.self.items c.in_ok-push.ensures.items
      (judged_found _ _ _ _ _ _ _ _ (ap (map loaded_back) c.deref-in-loop-place.ensures.value)
      c.in-Ok.ensures.opened);
  quiet = quiet_after _ _ _ c.loop-place.invariant.quiet c.in-Ok.ensures.quiet;
  fine = fine_after _ _ _ c.loop-place.invariant.fine c.in-Ok.ensures.cause;
  later = omega (arith, c.in-Ok.ensures.later, c.loop-place.invariant.later);
}

pub returns-clause-opened : goal.returns-clause-opened
returns-clause-opened g c =
    opens_all _ _ _ _ _ _
    (found_all IsJudged string_bytes c.args.names.now c.loop-place.place _ _ _ _ _
    c.loop-place-test.false c.loop-place.invariant.opened)
