use Rattle.std.specs.Prelude.{map}
use Rattle.std.specs.String.{string_bytes}
use Rattle.std.proofs.Common.{List, ◌≡◌, ◌∙◌, ℕ, sym, ap, subst, arith, rules}
use Rattle.std.proofs.lemmas.Simd.{map-map}
use Rattle.frz_sets.specs.Sets.{size_of}
use Rattle.frz_store.specs.Told.{store_of}
use Rattle.frz_table.specs.Tables.{table_size}
use Rattle.frz_table.specs.declared.fault.TableFault.TheVariants.{NoMemory}
use Rattle.frz_check.specs.Kept.{ChecksTable}
use Rattle.frz_backs.specs.Books.{Back}
use Rattle.frz_backs.specs.FileOn.{loaded_back}
use Rattle.frz_backs.specs.BackTable.{BackTable}
use Rattle.frz_backs.specs.Links.{backs_of, value_over}
use Rattle.frz_backs.specs.Loaded.{leans_as, link_loaded}
use Rattle.frz_table.proofs.Lemmas.{refused_as}
use Rattle.frz_backs.proofs.Lemmas.{loaded_backs}
use Rattle.frz_atlas.specs.Checking.{RefusesAtlas}
use Rattle.frz_atlas.specs.declared.fault.AtlasFault.{AtlasFault}
use Rattle.frz_atlas.proofs.AtlasChecked.{atlas_checked, back_refused, not_loaded, not_opened}
use Rattle.frz_atlas.proofs.OwnKinds.{own_kind}
use Rattle.frz_atlas.proofs.checking.check_atlas.Goals as goal

pub returns-in-Err-clause-refused : goal.returns-in-Err-clause-refused
returns-in-Err-clause-refused g c =
    let table = c.args.table.now in
    let behind = map string_bytes c.args.behind.now in
    let old = store_of g.S.Store c.args.store.now in
    let new = store_of g.S.Store c.open_own.new.store in
    subst (λ (f : AtlasFault). RefusesAtlas table behind old new c.args.steps.now c.args.steps.now f)
    (sym c.of_table.ensures)
    (not_opened table behind old new c.args.steps.now c.in-Err.fault c.in-Err.ensures.may_refuse)

pub returns-in_err-backs-clause-refused : goal.returns-in_err-backs-clause-refused
returns-in_err-backs-clause-refused g c =
    let table = c.args.table.now in
    let behind = map string_bytes c.args.behind.now in
    let old = store_of g.S.Store c.args.store.now in
    let mid = store_of g.S.Store c.open_own.new.store in
    let new = store_of g.S.Store c.open_behind.new.store in
    let e = c.in-Ok.ensures in
    let fault = c.in_err-backs.field-0.0 in
    refused_as (RefusesAtlas table behind old new c.args.steps.now c.open_behind.new.steps)
    c.from_residual.result _ c.from_residual.ensures.1
    (back_refused c.in-Ok.opened table behind old mid c.args.steps.now e.may_open
    e.quiet.unwritten.files e.asked e.calls new c.open_behind.new.steps fault
    c.in_err-backs.ensures.refused)

pub returns-in_err-sizes-clause-refused : goal.returns-in_err-sizes-clause-refused
returns-in_err-sizes-clause-refused g c =
    let table = c.args.table.now in
    let behind = map string_bytes c.args.behind.now in
    let old = store_of g.S.Store c.args.store.now in
    let mid = store_of g.S.Store c.open_own.new.store in
    let new = store_of g.S.Store c.open_behind.new.store in
    let e = c.in-Ok.ensures in
    refused_as (RefusesAtlas table behind old new c.args.steps.now c.open_behind.new.steps)
    c.from_residual-in_err-sizes.result _ c.from_residual-in_err-sizes.ensures.1
    (not_loaded c.in-Ok.opened table behind old mid c.args.steps.now e.may_open
    e.quiet.unwritten.files e.asked e.calls c.in_ok-backs.backs.items new new
    c.open_behind.new.steps c.open_behind.new.steps c.in_ok-backs.ensures.opened
    (omega arith) (omega arith) (omega arith) NoMemory tt)

pub returns-in-Ok-check_over-clause-verdict : goal.returns-in-Ok-check_over-clause-verdict
returns-in-Ok-check_over-clause-verdict g c =
    let table = c.in-Ok.opened in
    let backs = c.in_ok-backs.backs.items in
    let links = map link_loaded backs in
    let old = store_of g.S.Store c.args.store.now in
    let mid = store_of g.S.Store c.open_own.new.store in
    let then = store_of g.S.Store c.open_behind.new.store in
    let new = store_of g.S.Store c.check_over.new.store in
    let e = c.in-Ok.ensures in
    let b = c.in_ok-backs.ensures in
    let k = c.in-Ok-check_over.ensures in
    let size : c.size.result ≡ table_size table = search rules in
    let of_back : Back → ℕ = λ back. size_of back.groups in
    let sizes : c.in_ok-sizes.sizes.items ≡ map of_back (backs_of links) =
    c.in_ok-sizes.ensures
    ∙ (ap (map (λ (back : BackTable). size_of back.table.rules.groups)) c.deref.ensures.value
    ∙ (sym (map-map of_back loaded_back backs)
    ∙ ap (map of_back) (sym (loaded_backs backs)))) in
    atlas_checked table c.args.table.now (map string_bytes c.args.behind.now) old mid
    c.args.steps.now
    e.may_open e.quiet.unwritten.files e.asked e.calls backs
    then new c.open_behind.new.steps c.check_over.new.steps b.opened k.asked k.calls k.steps
    b.quiet.unwritten.files (own_kind _ _ _ e.kind) e.name _ size sizes
    (subst (λ (l : List Back). ChecksTable (g.S.Store.files c.open_behind.new.store) table
    (value_over (leans_as table.kind) table.rules l) c.in-Ok-check_over.verdict)
    (ap (map loaded_back) c.deref-2.ensures.value ∙ sym (loaded_backs backs)) k.verdict)

pub returns-clause-refused : goal.returns-clause-refused
returns-clause-refused g c =
    let name = c.args.table.now in
    let behind = map string_bytes c.args.behind.now in
    let old = store_of g.S.Store c.args.store.now in
    let mid = store_of g.S.Store c.open_own.new.store in
    let then = store_of g.S.Store c.open_behind.new.store in
    let new = store_of g.S.Store c.check_over.new.store in
    let e = c.in-Ok.ensures in
    let k = c.in-Err-check_over.ensures in
    subst (λ (f : AtlasFault). RefusesAtlas name behind old new c.args.steps.now
    c.check_over.new.steps f)
    (sym c.of_table-in-Err-check_over.ensures)
    (not_loaded c.in-Ok.opened name behind old mid c.args.steps.now e.may_open
    e.quiet.unwritten.files e.asked e.calls c.in_ok-backs.backs.items
    then new c.open_behind.new.steps c.check_over.new.steps c.in_ok-backs.ensures.opened k.asked
    k.calls k.steps c.in-Err-check_over.fault k.outside)
