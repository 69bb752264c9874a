use Rattle.std.proofs.Common.{ap, ◌∙◌, ℕ, List, Result, Err}
use Rattle.std.proofs.lemmas.Result.{err_from_is_err_and}
use Rattle.frz_store.specs.Told.{StoreTold, store_of}
use Rattle.frz_store.specs.declared.outside.StoreFault.{StoreFault}
use Rattle.frz_table.specs.declared.kind.FileKind.TheVariants.{Plain}
use Rattle.frz_table.specs.Layout.{magic_of, header_of}
use Rattle.frz_table.specs.Numbers.{number_bytes}
use Rattle.frz_build.proofs.Lemmas.{all_written, black_failed, header_refused, white_failed}
use Rattle.frz_commands_table.proofs.migrating.write_file.Goals as goal

pub returns-in_err-begin_table-clause-written : goal.returns-in_err-begin_table-clause-written
returns-in_err-begin_table-clause-written g c =
    let header : List ℕ = header_of (magic_of Plain) c.args.text.now c.args.size in
    let p = err_from_is_err_and c.from_residual.result c.from_residual.ensures.1 in
    let err : StoreFault → Result (Unit {0}) StoreFault = λ f. Err f in
    header_refused c.args.name.now header (number_bytes c.args.white.now)
    (number_bytes c.args.black.now) (store_of g.S.Store c.args.store.now)
    c.from_residual.result _ (store_of g.S.Store c.begin_table.new.store) (p.1 ∙ ap err p.2)
    c.in_err-begin_table.ensures.begun

pub returns-in_err-append_codes-clause-written : goal.returns-in_err-append_codes-clause-written
returns-in_err-append_codes-clause-written g c =
    let header : List ℕ = header_of (magic_of Plain) c.args.text.now c.args.size in
    let begun : StoreTold = store_of g.S.Store c.begin_table.new.store in
    let p = err_from_is_err_and c.from_residual-in_err-append_codes.result
    c.from_residual-in_err-append_codes.ensures.1 in
    let err : StoreFault → Result (Unit {0}) StoreFault = λ f. Err f in
    white_failed c.args.name.now header (number_bytes c.args.white.now)
    (number_bytes c.args.black.now) (store_of g.S.Store c.args.store.now)
    begun c.in_ok-begin_table.ensures.begun
    c.from_residual-in_err-append_codes.result _ (store_of g.S.Store c.append_codes.new.store)
    (p.1 ∙ ap err p.2) c.in_err-append_codes.ensures.appended

pub returns-in_err-append_codes-2-clause-written : goal.returns-in_err-append_codes-2-clause-written
returns-in_err-append_codes-2-clause-written g c =
    let header : List ℕ = header_of (magic_of Plain) c.args.text.now c.args.size in
    let begun : StoreTold = store_of g.S.Store c.begin_table.new.store in
    let p = err_from_is_err_and c.from_residual-in_err-append_codes-2.result
    c.from_residual-in_err-append_codes-2.ensures.1 in
    let err : StoreFault → Result (Unit {0}) StoreFault = λ f. Err f in
    black_failed c.args.name.now header (number_bytes c.args.white.now)
    (number_bytes c.args.black.now) (store_of g.S.Store c.args.store.now)
    begun c.in_ok-begin_table.ensures.begun (store_of g.S.Store c.append_codes.new.store) _
    c.in_ok-append_codes.ensures.appended
    c.from_residual-in_err-append_codes-2.result _ (store_of g.S.Store c.append_codes-2.new.store)
    (p.1 ∙ ap err p.2) c.in_err-append_codes-2.ensures.appended

pub returns-clause-written : goal.returns-clause-written
returns-clause-written g c =
    let header : List ℕ = header_of (magic_of Plain) c.args.text.now c.args.size in
    let begun : StoreTold = store_of g.S.Store c.begin_table.new.store in
    all_written c.args.name.now header (number_bytes c.args.white.now)
    (number_bytes c.args.black.now) (store_of g.S.Store c.args.store.now)
    begun c.in_ok-begin_table.ensures.begun (store_of g.S.Store c.append_codes.new.store) _
    c.in_ok-append_codes.ensures.appended
    _ (store_of g.S.Store c.append_codes-2.new.store) c.in_ok-append_codes-2.ensures.appended
