use Rattle.std.proofs.Common.{◌∙◌, ap}
use Rattle.frz_store.specs.Told.{store_of}
use Rattle.frz_sets.specs.Sets.{size_of}
use Rattle.frz_check.proofs.Lemmas.{file_not_loaded}
use Rattle.frz_commands_table.proofs.JudgedFiles.{judged_file}
use Rattle.frz_commands_table.proofs.judging.judge_file.Goals as goal

pub returns-in-Ok-clause-judged : goal.returns-in-Ok-clause-judged
returns-in-Ok-clause-judged g c =
    let table = c.in_ok-table.table in
    let e = c.in-Ok.ensures in
    judged_file table c.new-book.result.rules.now c.args.name.now
    (store_of g.S.Store c.args.store.now) (store_of g.S.Store c.open_table.new.store)
    (store_of g.S.Store c.check_kept.new.store) c.args.steps.now c.check_kept.new.steps _
    c.open_table.ensures.quiet.unwritten.files c.in_ok-table.ensures.kind c.in_ok-table.ensures.name
    (c.new-book.ensures ∙ c.rules.ensures.rules) c.rules.ensures.read
    c.in_ok-table.ensures.asked c.open_table.ensures.calls e.asked e.calls e.steps
    (c.size-size.ensures.size ∙ ap size_of c.set.ensures) e.verdict

pub returns-clause-refused : goal.returns-clause-refused
returns-clause-refused g c =
    let e = c.in-Err.ensures in
    file_not_loaded c.in_ok-table.table c.args.name.now (store_of g.S.Store c.args.store.now)
    (store_of g.S.Store c.open_table.new.store)
    (store_of g.S.Store c.check_kept.new.store) c.args.steps.now c.check_kept.new.steps
    c.in-Err.fault
    c.in_ok-table.ensures.may_open c.in_ok-table.ensures.asked c.open_table.ensures.calls e.asked
    e.calls e.steps e.outside
