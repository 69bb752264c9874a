use Rattle.std.proofs.Common.{ap, ◌∙◌, List, ℕ, Result, Err}
use Rattle.std.proofs.lemmas.Result.{err_from_is_err_and}
use Rattle.frz_store.specs.declared.outside.StoreFault.{StoreFault}
use Rattle.frz_table.specs.Layout.{header_of, magic_of}
use Rattle.frz_table.specs.Numbers.{number_bytes}
use Rattle.frz_build.proofs.Lemmas.{all_written, black_failed, header_refused, white_failed}
use Rattle.frz_plane_tables.proofs.building.write_both.Given.{Over}
use Rattle.frz_plane_tables.proofs.building.write_both.Goals as goal
use Rattle.frz_plane_tables.proofs.building.write_both.Goals.{After-begin_table}

abbrev header : (g : Over) (c : After-begin_table g) → List ℕ
header g c = header_of (magic_of c.args.file.now.kind) c.args.file.now.text.now c.args.size

abbrev failed_as : StoreFault → Result ℕ StoreFault
failed_as f = Err f

pub returns-in_err-begin_table-clause-written : goal.returns-in_err-begin_table-clause-written
returns-in_err-begin_table-clause-written g c =
    let p = err_from_is_err_and c.from_residual.result c.from_residual.ensures.1 in
    let here = (goal.at.returns-in_err-begin_table-clause-written g c).After-begin_table in
    header_refused _ (header g here) (number_bytes c.args.white.now)
    (number_bytes c.args.black.now) _ c.from_residual.result _ _ (p.1 ∙ ap failed_as p.2)
    c.in_err-begin_table.ensures.begun

pub returns-in_err-append_codes-clause-written : goal.returns-in_err-append_codes-clause-written
returns-in_err-append_codes-clause-written g c =
    let p = err_from_is_err_and c.from_residual-in_err-append_codes.result
    c.from_residual-in_err-append_codes.ensures.1 in
    let here = (goal.at.returns-in_err-append_codes-clause-written g c).After-begin_table in
    white_failed _ (header g here) _ (number_bytes c.args.black.now) _ _
    c.in_ok-begin_table.ensures.begun c.from_residual-in_err-append_codes.result _ _
    (p.1 ∙ ap failed_as p.2) c.in_err-append_codes.ensures.appended

pub returns-in_err-append_codes-2-clause-written : goal.returns-in_err-append_codes-2-clause-written
returns-in_err-append_codes-2-clause-written g c =
    let p = err_from_is_err_and c.from_residual-in_err-append_codes-2.result
    c.from_residual-in_err-append_codes-2.ensures.1 in
    let here = (goal.at.returns-in_err-append_codes-2-clause-written g c).After-begin_table in
    black_failed _ (header g here) _ _ _ _ c.in_ok-begin_table.ensures.begun _ _
    c.in_ok-append_codes.ensures.appended c.from_residual-in_err-append_codes-2.result _ _
    (p.1 ∙ ap failed_as p.2) c.in_err-append_codes-2.ensures.appended

pub returns-clause-written : goal.returns-clause-written
returns-clause-written g c =
    let here = (goal.at.returns-clause-written g c).After-begin_table in
    all_written _ (header g here) _ _ _ _ c.in_ok-begin_table.ensures.begun _ _
    c.in_ok-append_codes.ensures.appended _ _ c.in_ok-append_codes-2.ensures.appended
