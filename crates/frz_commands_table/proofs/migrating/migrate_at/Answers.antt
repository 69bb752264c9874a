use Rattle.std.proofs.Common.{refl, ap, ◌∙◌, length, arith}
use Rattle.std.proofs.lemmas.Result.{err_from_is_err_and}
use Rattle.frz_store.specs.Files.{Files}
use Rattle.frz_store.specs.Told.{store_of}
use Rattle.frz_former.specs.OldFiles.{old_contents_of, old_format}
use Rattle.frz_table.proofs.Lemmas.{belongs}
use Rattle.frz_answer.specs.World.{world}
use Rattle.frz_prelude.specs.Stops.{stop_of_table}
use Rattle.frz_prelude.proofs.Lemmas.{found_where, stop_own, stopped_reply, table_cause, through_reply}
use Rattle.frz_commands_table.specs.declared.moving.Moved.{Moved}
use Rattle.frz_commands_table.specs.MigrateMeans.{migrating_at}
use Rattle.frz_commands_table.specs.Migrating.{writing_new}
use Rattle.frz_commands_table.proofs.MigrateEnds.{costs_at, holds_old, moved_answer, stopped_so, writes_stage}
use Rattle.frz_commands_table.proofs.migrating.migrate_at.Goals as goal

pub write_new-requires-clause-short : goal.write_new-requires-clause-short
write_new-requires-clause-short g c =
    let moved = c.in_ok-moved.ensures.moved in
    (belongs old_format moved.bytes (old_contents_of c.in_ok-moved.moved.file) moved.opens).short

pub returns : goal.returns
returns g c = λ steps.
    let e = c.in_ok-moved.ensures in
    let old = c.args.old.now in
    let new = c.args.new.now in
    let moved = c.in_ok-moved.moved in
    let h = e.moved in
    let at = holds_old old _ (store_of g.S.Store c.args.store.now)
    (store_of g.S.Store c.move_file.new.store) h.may h.within in
    through_reply (writing_new moved.file.text (length moved.white.items) moved.white.items
    moved.black.items new) (migrating_at old new) _ _ _ _ _ _ _
    e.quiet (record { faults = e.causes.fine; wants = e.causes.wants_fine }) (omega arith)
    (writes_stage moved.file.text (length moved.white.items) moved.white.items moved.black.items old
    new)
    (λ files left input out after agrees. record {
      found = found_where (migrating_at old new) at.files files left _ (λ e. cc) at.agrees agrees;
      answers = λ m i a fits same untaken told. moved_answer old new _ _ moved h m a
          (ap (λ (f : Files). f old) (same refl) ∙ at.holds) told;
      costs = λ m i a fits same untaken told costs.
          costs_at old new m h.bytes (old_contents_of moved.file) (length moved.white.items)
          (world (store_of g.S.Store c.args.store.now) input out steps)
          (world (store_of g.S.Store c.move_file.new.store) input out steps)
          (world (store_of g.S.Store c.write_new.new.store) input after steps)
          (ap (λ (f : Files). f old) (same refl) ∙ at.holds)
          h.opens h.white_moved.many h.within refl costs;
    })
    (c.write_new.ensures steps)

pub returns-in_err-moved : goal.returns-in_err-moved
returns-in_err-moved g c = λ steps.
    let p = err_from_is_err_and c.from_residual.result c.from_residual.ensures.1 in
    let e = c.in_err-moved.ensures in
    let fault = c.in_err-moved.field-0.0 in
    let job = migrating_at c.args.old.now c.args.new.now in
    rw (p.1, p.2)
    (stopped_reply Moved job (stop_of_table fault) _ _ steps steps e.quiet (omega arith) refl refl
    (stop_own fault job.statuses refl refl)
    (table_cause Moved Moved fault _ _ e.causes)
    (λ files left input out agrees. stopped_so _ _ files left _ _ agrees refl fault e.refused))
