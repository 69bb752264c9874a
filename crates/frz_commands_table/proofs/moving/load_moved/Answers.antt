use Rattle.std.proofs.lemmas.Result.{err_from_is_err_and}
use Rattle.frz_commands_table.proofs.MovedFiles.{lists_moved, memory_wanted}
use Rattle.frz_commands_table.proofs.moving.load_moved.Goals as goal

pub returns-in_err-lists-clause-causes : goal.returns-in_err-lists-clause-causes
returns-in_err-lists-clause-causes g c =
    let p = err_from_is_err_and c.from_residual-in_err-lists.result
    c.from_residual-in_err-lists.ensures.1 in
    memory_wanted _ _ _ _ _ c.from_residual-in_err-lists.result p.0 c.in_ok-white.ensures.causes p.1
    p.2

pub returns-clause-moved : goal.returns-clause-moved
returns-clause-moved g c =
    lists_moved (g.S.Store.files c.args.store.now) c.args.file.now c.rules-2.result.now
    c.in_ok-white.white.items c.in_ok-white.black.items
    c.deref.result.now c.deref-2.result.now c.in_ok-lists.lists.0.items c.in_ok-lists.lists.1.items
    c.in_ok-white.ensures.may_keep c.rules-2.ensures.rules c.deref.ensures.value
    c.deref-2.ensures.value
    c.in_ok-lists.ensures.white c.in_ok-lists.ensures.black
