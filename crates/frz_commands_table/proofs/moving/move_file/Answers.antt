use Rattle.std.proofs.Common.{refl}
use Rattle.frz_store.specs.Told.{store_of}
use Rattle.frz_commands_table.proofs.MovedFiles.{file_moved, not_moved}
use Rattle.frz_commands_table.proofs.moving.move_file.Goals as goal

pub returns-in-Ok-clause-moved : goal.returns-in-Ok-clause-moved
returns-in-Ok-clause-moved g c =
    let table = c.in_ok-file.file in
    let e = c.in_ok-file.ensures in
    file_moved c.args.name.now (store_of g.S.Store c.args.store.now)
    (store_of g.S.Store c.open_old.new.store) (store_of g.S.Store c.load_moved.new.store)
    table e.may_open e.asked c.open_old.ensures.calls c.load_moved.ensures.asked
    c.load_moved.ensures.calls
    (record { file = table; white = c.in-Ok.white; black = c.in-Ok.black }) refl
    c.open_old.ensures.quiet.unwritten.files e.name c.in-Ok.ensures.moved

pub returns-in-Err-clause-refused : goal.returns-in-Err-clause-refused
returns-in-Err-clause-refused g c =
    let table = c.in_ok-file.file in
    let e = c.in_ok-file.ensures in
    not_moved c.args.name.now (store_of g.S.Store c.args.store.now)
    (store_of g.S.Store c.open_old.new.store) (store_of g.S.Store c.load_moved.new.store)
    table e.may_open e.asked c.open_old.ensures.calls c.load_moved.ensures.asked
    c.load_moved.ensures.calls c.in-Err.fault c.in-Err.ensures.outside
