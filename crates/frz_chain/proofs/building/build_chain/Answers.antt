use Rattle.std.proofs.Common.{◌≤◌, ℕ, length, ap, Result, Err, arith}
use Rattle.std.proofs.lemmas.Result.{err_from_is_err_and}
use Rattle.frz_rules.specs.declared.fault.RulesError.{RulesError}
use Rattle.frz_sets.specs.Views.{RuleLines}
use Rattle.frz_store.specs.Told.{store_of}
use Rattle.frz_table.proofs.Lemmas.{read_short}
use Rattle.frz_chain.specs.Causes.{HasChainCause}
use Rattle.frz_chain.specs.Chains.{RefusesToChain}
use Rattle.frz_chain.specs.FileOn.{loaded_back}
use Rattle.frz_chain.specs.declared.fault.ChainFault.{ChainFault}
use Rattle.frz_chain.proofs.Chained.{built_over_back, not_chained, not_read, write_cause}
use Rattle.frz_table.proofs.Lemmas.{handed_on, refused_as}
use Rattle.frz_chain.proofs.building.build_chain.Goals as goal

pub build_over-requires-clause-text : goal.build_over-requires-clause-text
build_over-requires-clause-text g c =
    let short : length c.args.text.now ≤ 65536 = read_short c.args.text.now c.in_ok-rules.rules
    c.in_ok-rules.ensures.exact in omega (arith, short)

pub returns-in_err-rules-clause-refused : goal.returns-in_err-rules-clause-refused
returns-in_err-rules-clause-refused g c =
    let err : RulesError → Result RuleLines RulesError = λ f. Err f in
    let p = err_from_is_err_and c.from_residual.result c.from_residual.ensures.1 in
    rw (p.1, p.2)
    (not_read c.args.text.now c.args.back.now c.args.name.now (store_of g.S.Store c.args.store.now)
    c.args.steps.now c.in_err-rules.field-0.0 c.in_err-rules.ensures.exact
    (λ e. c.in_err-rules.ensures.memory (ap err e)))

pub returns-in_err-build_over-clause-refused : goal.returns-in_err-build_over-clause-refused
returns-in_err-build_over-clause-refused g c =
    let old = store_of g.S.Store c.args.store.now in
    let mid = store_of g.S.Store c.open_back.new.store in
    let new = store_of g.S.Store c.build_over.new.store in
    let back = c.in_ok-back.ensures in
    let over = c.in_err-build_over.ensures in
    refused_as (RefusesToChain c.args.text.now c.args.back.now c.args.name.now old new
    c.args.steps.now c.build_over.new.steps)
    c.from_residual-in_err-build_over.result _ c.from_residual-in_err-build_over.ensures.1
    (not_chained c.args.text.now c.args.back.now c.args.name.now c.in_ok-rules.rules
    c.in_ok-rules.ensures.exact (loaded_back c.in_ok-back.back) old mid new
    c.args.steps.now c.open_back.new.steps c.build_over.new.steps back.quiet back.cause back.opened
    over.cost over.asked over.calls c.in_err-build_over.field-0.0 over.built)

pub returns-in_err-build_over-clause-cause : goal.returns-in_err-build_over-clause-cause
returns-in_err-build_over-clause-cause g c =
    let old = store_of g.S.Store c.args.store.now in
    let new = store_of g.S.Store c.build_over.new.store in
    handed_on (λ (r : Result ℕ ChainFault). HasChainCause r old new)
    c.from_residual-in_err-build_over.result _ c.from_residual-in_err-build_over.ensures.1
    (write_cause _ _ c.in_err-build_over.field-0.0 old (store_of g.S.Store c.open_back.new.store)
    new c.in_ok-back.ensures.cause c.in_err-build_over.ensures.built.written)

pub returns-clause-built : goal.returns-clause-built
returns-clause-built g c =
    let old = store_of g.S.Store c.args.store.now in
    let mid = store_of g.S.Store c.open_back.new.store in
    let new = store_of g.S.Store c.build_over.new.store in
    let back = c.in_ok-back.ensures in
    let over = c.in_ok-build_over.ensures in
    built_over_back c.args.text.now c.args.back.now c.args.name.now c.in_ok-rules.rules
    c.in_ok-rules.ensures.exact (loaded_back c.in_ok-back.back) old mid new
    c.args.steps.now c.open_back.new.steps c.build_over.new.steps back.quiet back.cause back.opened
    over.cost over.asked over.calls c.requires c.in_ok-build_over.field-0 over.size over.built
