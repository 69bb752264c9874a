use Rattle.std.proofs.Common.{sym, subst}
use Rattle.std.specs.Prelude.{map}
use Rattle.std.specs.String.{string_bytes}
use Rattle.frz_store.specs.Told.{store_of}
use Rattle.frz_atlas.specs.declared.fault.AtlasFault.{AtlasFault}
use Rattle.frz_commands_atlas.specs.Each.{RefusesTables}
use Rattle.frz_commands_atlas.proofs.TablesOpened.{refused_behind, refused_first, tables_opened}
use Rattle.frz_commands_atlas.proofs.each.open_over.Goals as goal

pub returns-in-Err-clause-refused : goal.returns-in-Err-clause-refused
returns-in-Err-clause-refused g c =
    let table = c.args.table.now in
    let behind = map string_bytes c.args.behind.now in
    let old = store_of g.S.Store c.args.store.now in
    let new = store_of g.S.Store c.open_own.new.store in
    subst (λ (f : AtlasFault). RefusesTables table behind old new f) (sym c.of_table.ensures)
    (refused_first table behind old new c.in-Err.fault c.in-Err.ensures.refused
    c.open_own.ensures.calls)

pub returns-in-Ok-load_behind-clause-opened : goal.returns-in-Ok-load_behind-clause-opened
returns-in-Ok-load_behind-clause-opened g c =
    let e = c.in-Ok.ensures in
    tables_opened c.in-Ok.own c.args.table.now _ _ _ _ e.opened e.quiet.unwritten.files e.asked
    c.open_own.ensures.calls c.in-Ok-load_behind.backs.items e.kind e.name
    c.in-Ok-load_behind.ensures.loaded

pub returns-in-Err-load_behind-clause-refused : goal.returns-in-Err-load_behind-clause-refused
returns-in-Err-load_behind-clause-refused g c =
    let e = c.in-Ok.ensures in
    refused_behind c.in-Ok.own c.args.table.now _ _ _ _ e.opened e.quiet.unwritten.files e.asked
    c.open_own.ensures.calls c.in-Err-load_behind.fault c.in-Err-load_behind.ensures.refused
