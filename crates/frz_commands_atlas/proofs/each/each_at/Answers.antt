use Rattle.std.proofs.Common.{◌≡◌, Err, List, Option, ap, arith, length, map, refl, subst}
use Rattle.std.specs.Global.{Vec}
use Rattle.std.specs.String.{string_bytes}
use Rattle.frz_store.specs.Files.{Files}
use Rattle.frz_store.specs.Told.{StoreTold, sink_of, store_of}
use Rattle.frz_table.specs.Tables.{Carries}
use Rattle.frz_table.proofs.Lemmas.{fine_after, quiet_after}
use Rattle.frz_atlas.specs.BackTable.{BackTable}
use Rattle.frz_atlas.specs.FileOn.{loaded_back}
use Rattle.frz_answer.specs.World.{world}
use Rattle.frz_answer.proofs.Lemmas.{quiet_both}
use Rattle.frz_prelude.proofs.Lemmas.{ended, may_stop}
use Rattle.frz_commands_atlas.specs.declared.rows.Row.{Row}
use Rattle.frz_commands_atlas.specs.Each.{ReadsIn, ReadsRows}
use Rattle.frz_commands_atlas.specs.EachMeans.{each_at}
use Rattle.frz_commands_atlas.proofs.EachRun.{each_is_told, legal_read, many_read, own_stop, refused_so, stopped_each, stopped_later}
use Rattle.frz_commands_atlas.proofs.TablesOpened.{few_backs, small_place}
use Rattle.frz_commands_atlas.proofs.each.each_at.Goals as goal

pub end_at-requires : goal.end_at-requires
end_at-requires g c =
    small_place c.args.table.now _ _ _ c.in-Err.fault c.requires.few c.in-Err.ensures.refused

pub returns : goal.returns
returns g c = λ input.
    let e = c.in-Err.ensures in
    refused_so c.args.table.now _ c.requires.apart c.args.p.now _ _ _ _ e.quiet (omega arith) input
    _ c.in-Err.fault e.refused (omega arith) _ _ e.cause c.end_at.ensures

pub write_over-requires-clause-legal : goal.write_over-requires-clause-legal
write_over-requires-clause-legal g c =
    rw c.deref-in-Ok-rows_in-2.ensures.value
    (legal_read c.in-Ok.own (map loaded_back c.deref.result.now) c.args.p.now _
    c.in-Ok-rows_in.rows.items c.in-Ok-rows_in.ensures.rows)

pub write_over-requires-clause-few : goal.write_over-requires-clause-few
write_over-requires-clause-few g c =
    rw c.deref-in-Ok-rows_in.ensures.value
    (few_backs c.args.table.now (map string_bytes c.args.behind.now)
    (store_of g.S.Store c.args.store.now) (store_of g.S.Store c.open_over.new.store) c.in-Ok.own
    c.in-Ok.backs.items c.requires.few c.in-Ok.ensures.opened)

pub returns-in-Ok-rows_in : goal.returns-in-Ok-rows_in
returns-in-Ok-rows_in g c = λ input.
    let e = c.in-Ok.ensures in
    let k = c.in-Ok-rows_in.ensures in
    let w = c.write_over.ensures in
    let old : StoreTold = store_of g.S.Store c.args.store.now in
    let mid : StoreTold = store_of g.S.Store c.open_over.new.store in
    let new : StoreTold = store_of g.S.Store c.rows_in.new.store in
    let own = c.in-Ok.own in
    let backs : List BackTable = c.in-Ok.backs.items in
    let rows : List Row = c.in-Ok-rows_in.rows.items in
    let p = c.args.p.now in
    let read : ReadsRows own (map loaded_back backs) p old.files rows =
    subst (λ (o : Option Files). ReadsRows own (map loaded_back backs) p o rows)
    e.quiet.unwritten.files
    (subst (λ (l : List BackTable). ReadsRows own (map loaded_back l) p mid.files rows)
    c.deref.ensures.value k.rows) in
    let carries : Carries old.files own =
    subst (λ (o : Option Files). Carries o own) e.quiet.unwritten.files e.carries in
    let many = many_read own (map loaded_back backs) p old.files rows read in
    let written : length c.deref-in-Ok-rows_in-2.result.now ≡ length rows =
    ap (length {A = Row}) c.deref-in-Ok-rows_in-2.ensures.value in
    each_is_told c.args.table.now _ c.requires.apart p old new c.args.steps.now
    c.write_over.new.steps (quiet_after old mid new e.quiet k.quiet)
    (omega (arith, k.later, w.later)) input _ own backs mid e.opened k.asked k.calls
    (omega (arith, k.step, w.spent, many, written)) carries rows read c.said.result _
    (fine_after old mid new e.cause k.cause)
    (c.said.ensures _ _ _ (rw (c.deref-in-Ok-rows_in.ensures.value, c.deref-in-Ok-rows_in-2.ensures.value) at w.wrote))

pub returns-in-Ok : goal.returns-in-Ok
returns-in-Ok g c = λ input.
    let e = c.in-Ok.ensures in
    let k = c.in-Err-rows_in.ensures in
    let old : StoreTold = store_of g.S.Store c.args.store.now in
    let mid : StoreTold = store_of g.S.Store c.open_over.new.store in
    let new : StoreTold = store_of g.S.Store c.rows_in.new.store in
    let own = c.in-Ok.own in
    let backs : List BackTable = c.in-Ok.backs.items in
    let stop = c.in-Err-rows_in.stop in
    let p = c.args.p.now in
    let behind = map string_bytes c.args.behind.now in
    let out = sink_of g.O.Sink c.args.out.now in
    let job = each_at c.args.table.now behind p in
    let read : ReadsIn own (map loaded_back backs) p old.files (Err stop) =
    subst (λ (o : Option Files). ReadsIn own (map loaded_back backs) p o (Err stop))
    e.quiet.unwritten.files
    (subst (λ (l : List BackTable). ReadsIn own (map loaded_back l) p mid.files (Err stop))
    c.deref.ensures.value k.rows) in
    let quiet = quiet_after old mid new e.quiet k.quiet in
    let steps = k.step in
    ended job stop _ _ (world _ _ _ _) _ (quiet_both _ _ _ _ _ _ quiet k.later)
    (may_stop (Vec Row) job stop old new input _ _ _ refl refl
    (own_stop c.args.table.now behind c.requires.apart p old new c.args.steps.now c.rows_in.new.steps
    quiet k.later input out own backs mid e.opened k.asked k.calls (omega (arith, steps)) stop read)
    (stopped_later (Vec Row) stop old mid new e.cause k.cause)) c.end.ensures
    (λ files left agrees. stopped_each c.args.table.now behind c.requires.apart p old new
    c.args.steps.now c.rows_in.new.steps quiet k.later input out own backs mid e.opened k.asked
    k.calls (omega (arith, steps)) stop read files left agrees)
