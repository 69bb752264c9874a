use Rattle.std.proofs.lemmas.Result.{err_from_is_err_and}
use Rattle.std.specs.Prelude.{map}
use Rattle.std.specs.String.{string_bytes}
use Rattle.frz_rules.proofs.Lemmas.{text_sound}
use Rattle.frz_store.specs.Told.{store_of}
use Rattle.frz_commands_premises.proofs.TablesFound.{lines_are_found, memory_wanted}
use Rattle.frz_commands_premises.proofs.premises.find_lines.Goals as goal

pub new-requires : goal.new-requires
new-requires g c =
    text_sound c.args.read.now.text.items c.args.read.now.rules c.requires

pub returns-in_err-premise_lines-clause-refused : goal.returns-in_err-premise_lines-clause-refused
returns-in_err-premise_lines-clause-refused g c =
    let p = err_from_is_err_and c.from_residual-in_err-premise_lines.result
    c.from_residual-in_err-premise_lines.ensures.1 in
    let steps = rw c.deref.ensures.value at c.in_err-premise_lines.ensures.steps in
    rw (p.1, p.2)
    (memory_wanted c.args.read.now.text.items c.args.read.now.rules
    (map string_bytes c.args.behind.now) (store_of g.S.Store c.args.store.now)
    (store_of g.S.Store c.open_behind.new.store) c.args.steps.now c.open_behind.new.steps
    c.premise_lines.new.steps c.in_ok-backs.backs.items c.in_ok-backs.ensures.opened steps)

pub returns-clause-found : goal.returns-clause-found
returns-clause-found g c =
    let steps = rw c.deref.ensures.value at c.in_ok-premise_lines.ensures.steps in
    let told = rw c.deref.ensures.value at c.in_ok-premise_lines.ensures.told in
    lines_are_found c.args.read.now.text.items c.args.read.now.rules
    (map string_bytes c.args.behind.now) (store_of g.S.Store c.args.store.now)
    (store_of g.S.Store c.open_behind.new.store) c.args.steps.now c.open_behind.new.steps
    c.premise_lines.new.steps c.in_ok-backs.backs.items c.in_ok-backs.ensures.opened steps
    c.in_ok-premise_lines.field-0.items told
