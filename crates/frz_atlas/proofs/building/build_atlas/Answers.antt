use Rattle.std.specs.Prelude.{map}
use Rattle.std.specs.String.{string_bytes}
use Rattle.std.proofs.Common.{◌∙◌, ◌≤◌, ℕ, length, sym, ap, Result, Err, arith}
use Rattle.std.proofs.lemmas.Result.{err_from_is_err_and}
use Rattle.frz_rules.specs.declared.fault.RulesError.{RulesError}
use Rattle.frz_sets.specs.Views.{RuleLines}
use Rattle.frz_store.specs.Told.{store_of}
use Rattle.frz_table.proofs.Lemmas.{read_short}
use Rattle.frz_backs.specs.FileOn.{loaded_back}
use Rattle.frz_table.proofs.Lemmas.{handed_on, refused_as}
use Rattle.frz_backs.proofs.Lemmas.{loaded_backs}
use Rattle.frz_atlas.specs.Building.{RefusesToBuild}
use Rattle.frz_atlas.specs.Causes.{HasAtlasCause}
use Rattle.frz_atlas.specs.declared.fault.AtlasFault.{AtlasFault}
use Rattle.frz_atlas.proofs.AtlasBuilt.{atlas_built, not_built, not_read, write_cause}
use Rattle.frz_atlas.proofs.building.build_atlas.Goals as goal

pub build_over-requires-clause-text : goal.build_over-requires-clause-text
build_over-requires-clause-text g c =
    let short : length c.args.text.now ≤ 65536 = read_short c.args.text.now c.in_ok-rules.rules
    c.in_ok-rules.ensures.exact in omega (arith, short)

pub returns-in_err-rules-clause-refused : goal.returns-in_err-rules-clause-refused
returns-in_err-rules-clause-refused g c =
    let err : RulesError → Result RuleLines RulesError = λ f. Err f in
    let p = err_from_is_err_and c.from_residual.result c.from_residual.ensures.1 in
    rw (p.1, p.2)
    (not_read c.args.text.now (map string_bytes c.args.behind.now) c.args.name.now
    (store_of g.S.Store c.args.store.now)
    c.args.steps.now c.in_err-rules.field-0.0 c.in_err-rules.ensures.exact
    (λ e. c.in_err-rules.ensures.memory (ap err e)))

pub returns-in_err-build_over-clause-refused : goal.returns-in_err-build_over-clause-refused
returns-in_err-build_over-clause-refused g c =
    let old = store_of g.S.Store c.args.store.now in
    let mid = store_of g.S.Store c.open_behind.new.store in
    let new = store_of g.S.Store c.build_over.new.store in
    let backs = c.in_ok-backs.ensures in
    let over = c.in_err-build_over.ensures in
    refused_as (RefusesToBuild c.args.text.now (map string_bytes c.args.behind.now)
    c.args.name.now old new c.args.steps.now c.build_over.new.steps)
    c.from_residual-in_err-build_over.result _ c.from_residual-in_err-build_over.ensures.1
    (not_built c.args.text.now (map string_bytes c.args.behind.now) c.args.name.now
    c.in_ok-rules.rules c.in_ok-rules.ensures.exact c.in_ok-backs.backs.items old
    mid new c.args.steps.now c.open_behind.new.steps c.build_over.new.steps backs.quiet backs.cause
    backs.opened over.cost over.asked over.calls c.in_err-build_over.field-0.0 _
    (ap (map loaded_back) c.deref.ensures.value ∙ sym (loaded_backs c.in_ok-backs.backs.items))
    over.built)

pub returns-in_err-build_over-clause-cause : goal.returns-in_err-build_over-clause-cause
returns-in_err-build_over-clause-cause g c =
    let old = store_of g.S.Store c.args.store.now in
    let new = store_of g.S.Store c.build_over.new.store in
    handed_on (λ (r : Result ℕ AtlasFault). HasAtlasCause r old new)
    c.from_residual-in_err-build_over.result _ c.from_residual-in_err-build_over.ensures.1
    (write_cause c.args.name.now c.in_err-build_over.ensures.built.bytes
    c.in_err-build_over.field-0.0 old (store_of g.S.Store c.open_behind.new.store) new
    c.in_ok-backs.ensures.cause c.in_err-build_over.ensures.built.written)

pub returns-clause-built : goal.returns-clause-built
returns-clause-built g c =
    let backs = c.in_ok-backs.ensures in
    let over = c.in_ok-build_over.ensures in
    atlas_built c.args.text.now (map string_bytes c.args.behind.now) c.args.name.now
    c.in_ok-rules.rules
    c.in_ok-rules.ensures.exact c.in_ok-backs.backs.items
    (store_of g.S.Store c.args.store.now) (store_of g.S.Store c.open_behind.new.store)
    (store_of g.S.Store c.build_over.new.store) c.args.steps.now c.open_behind.new.steps
    c.build_over.new.steps backs.quiet backs.cause
    backs.opened over.cost over.asked over.calls c.requires c.in_ok-build_over.field-0 over.size _
    (ap (map loaded_back) c.deref.ensures.value ∙ sym (loaded_backs c.in_ok-backs.backs.items))
    over.built
