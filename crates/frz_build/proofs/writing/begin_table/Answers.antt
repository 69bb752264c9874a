use Rattle.std.proofs.Common.{ap, ◌∙◌, [], Result, Err}
use Rattle.std.proofs.lemmas.Result.{err_from_is_err_and}
use Rattle.frz_store.specs.Told.{store_of}
use Rattle.frz_store.specs.declared.outside.StoreFault.{StoreFault}
use Rattle.frz_table.specs.Layout.{magic_of, header_of}
use Rattle.frz_build.proofs.Parts.{last_failed, piece_written}
use Rattle.frz_build.proofs.writing.begin_table.Goals as goal

pub returns-in_err-append_header-clause-begun : goal.returns-in_err-append_header-clause-begun
returns-in_err-append_header-clause-begun g c =
    let file = c.args.file.now in
    let p = err_from_is_err_and c.from_residual-in_err-append_header.result
    c.from_residual-in_err-append_header.ensures.1 in
    let err : StoreFault → Result (Unit {0}) StoreFault = λ f. Err f in
    last_failed file.name.now [] (header_of (magic_of file.kind) file.text.now c.args.size)
    (store_of g.S.Store c.args.store.now) (store_of g.S.Store c.create_file.new.store)
    (store_of g.S.Store c.append_header.new.store)
    c.in_ok-create_file.ensures.created c.from_residual-in_err-append_header.result _
    (p.1 ∙ ap err p.2) c.in_err-append_header.ensures.appended

pub returns-clause-begun : goal.returns-clause-begun
returns-clause-begun g c =
    let file = c.args.file.now in
    piece_written file.name.now [] (header_of (magic_of file.kind) file.text.now c.args.size)
    (store_of g.S.Store c.args.store.now) (store_of g.S.Store c.create_file.new.store)
    (store_of g.S.Store c.append_header.new.store)
    c.in_ok-create_file.ensures.created _ c.in_ok-append_header.ensures.appended
