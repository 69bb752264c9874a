use Rattle.std.proofs.Common.{◌∙◌, sym, subst, arith, rules}
use Rattle.frz_store.specs.Told.{StoreFine, store_of}
use Rattle.frz_table.specs.Opening.{contents_of}
use Rattle.frz_chain.specs.Chains.{RefusesChain}
use Rattle.frz_chain.specs.FileOn.{loaded_back}
use Rattle.frz_chain.specs.declared.checking.ChainVerdict.{ChainVerdict}
use Rattle.frz_chain.specs.declared.fault.ChainFault.{ChainFault}
use Rattle.frz_chain.proofs.Causes.{chain_later}
use Rattle.frz_chain.proofs.Checked.{back_refused, not_opened, result_told}
use Rattle.frz_table.proofs.Lemmas.{refused_as}
use Rattle.frz_chain.proofs.checking.check_chain.Goals as goal

pub returns-in-Err-clause-refused : goal.returns-in-Err-clause-refused
returns-in-Err-clause-refused g c =
    let table = c.args.table.now in
    let back = c.args.back.now in
    let old = store_of g.S.Store c.args.store.now in
    let new = store_of g.S.Store c.open_kind.new.store in
    subst (λ (f : ChainFault). RefusesChain table back old new c.args.steps.now c.args.steps.now f)
    (sym c.of_table.ensures)
    (not_opened table back old new c.args.steps.now c.in-Err.fault c.in-Err.ensures.may_refuse)

pub returns-in_err-behind-clause-refused : goal.returns-in_err-behind-clause-refused
returns-in_err-behind-clause-refused g c =
    let table = c.args.table.now in
    let back = c.args.back.now in
    let old = store_of g.S.Store c.args.store.now in
    let mid = store_of g.S.Store c.open_kind.new.store in
    let new = store_of g.S.Store c.open_back.new.store in
    let e = c.in-Ok.ensures in
    let fault = c.in_err-behind.field-0.0 in
    refused_as (RefusesChain table back old new c.args.steps.now c.open_back.new.steps)
    c.from_residual.result _ c.from_residual.ensures.1
    (back_refused table back (contents_of c.in-Ok.opened) old mid new c.args.steps.now
    c.open_back.new.steps fault
    e.may_open e.quiet.unwritten.files e.asked e.calls c.in_err-behind.ensures.refused)

pub returns : goal.returns
returns g c =
    let old = store_of g.S.Store c.args.store.now in
    let mid = store_of g.S.Store c.open_kind.new.store in
    let then = store_of g.S.Store c.open_back.new.store in
    let new = store_of g.S.Store c.check_over.new.store in
    let e = c.in-Ok.ensures in
    let b = c.in_ok-behind.ensures in
    let k = c.check_over.ensures in
    let fine : StoreFine old
    then = record {
      faults = b.cause.faults ∙ e.causes.fine;
      wants = b.cause.wants
          ∙ e.causes.wants_fine;
    } in
    let told = result_told c.in-Ok.opened c.args.table.now c.args.back.now
    (loaded_back c.in_ok-behind.behind) old mid then new
    c.args.steps.now c.open_back.new.steps c.check_over.new.steps e.may_open e.quiet.unwritten.files
    e.asked e.calls b.opened k.asked k.calls k.steps
    c.check_over.result b.quiet.unwritten.files e.kind e.name k.verdict k.sizes k.outside in
    record {
      verdict = told.checked;
      refused = told.refused;
      quiet = search rules;
      later = omega arith;
      cause = chain_later ChainVerdict c.check_over.result old then new fine k.cause;
    }
