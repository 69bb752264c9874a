use Rattle.std.proofs.Common.{◌∙◌, sym, subst}
use Rattle.frz_exits.specs.Books.{value_by}
use Rattle.frz_game.specs.EntryCodes.{of_side}
use Rattle.frz_sets.specs.Views.{RuleLines}
use Rattle.frz_store.specs.Told.{store_of}
use Rattle.frz_table.specs.Opening.{contents_of}
use Rattle.frz_build.specs.Verdicts.{IsVerdict}
use Rattle.frz_chain.specs.Backs.{RefusesBack}
use Rattle.frz_chain.specs.Books.{back_with}
use Rattle.frz_chain.specs.declared.fault.ChainFault.{ChainFault}
use Rattle.frz_chain.proofs.Backs.{JudgedBack, back_given, back_kept, back_wrong, judged_back, not_loaded}
use Rattle.frz_chain.proofs.opening.open_back.Given.{Over}
use Rattle.frz_chain.proofs.opening.open_back.Goals as goal
use Rattle.frz_chain.proofs.opening.open_back.Goals.{After-exact_back}

-- the verdict on what the name may hold
judged : (g : Over) (c : After-exact_back g)
    → JudgedBack c.args.name.now (contents_of c.in-Ok.table)
    (back_with c.in-Ok.table.rules.groups c.in-Ok-load_checked.loaded.white.items
    c.in-Ok-load_checked.loaded.black.items)
    c.in-Ok-load_checked.loaded.verdict (store_of g.S.Store c.args.store.now)
    (store_of g.S.Store c.load_checked.new.store) c.args.steps.now c.load_checked.new.steps
judged g c =
    let loaded = c.in-Ok-load_checked.loaded in
    let opened = c.in-Ok.ensures in
    let e = c.in-Ok-load_checked.ensures in
    judged_back c.in-Ok.table c.args.name.now loaded.white.items loaded.black.items loaded.verdict
    (store_of g.S.Store c.args.store.now)
    (store_of g.S.Store c.open_table.new.store) (store_of g.S.Store c.load_checked.new.store)
    c.args.steps.now c.load_checked.new.steps
    (g.met.S.Store.holds_bytes c.open_table.new.store) e.kept opened.quiet.unwritten.files
    opened.kind opened.name opened.may_open opened.asked opened.calls e.asked e.calls
    e.steps
    (subst (λ (r : RuleLines). IsVerdict c.in-Ok.table.rules (value_by r)
    (λ side. of_side side loaded.white.items loaded.black.items) loaded.verdict)
    (c.new-book.ensures ∙ c.rules.ensures.rules) e.verdict)

pub returns-in-Ok-load_checked-clause-opened : goal.returns-in-Ok-load_checked-clause-opened
returns-in-Ok-load_checked-clause-opened g c =
    back_given _ _ _ _ _ _ _ _ (judged g c) c.exact_back.result c.exact_back.ensures.gives

pub returns-in-Ok-load_checked-clause-table : goal.returns-in-Ok-load_checked-clause-table
returns-in-Ok-load_checked-clause-table g c =
    back_kept _ _ _ _ _ _ _ _ (judged g c) c.in-Ok.ensures.name c.in-Ok.ensures.kind
    c.exact_back.result c.exact_back.ensures.gives c.exact_back.ensures.same

pub returns-in-Ok-load_checked-clause-refused : goal.returns-in-Ok-load_checked-clause-refused
returns-in-Ok-load_checked-clause-refused g c =
    back_wrong _ _ _ _ _ _ _ _ (judged g c) c.exact_back.result c.exact_back.ensures.gives

pub returns-in-Err-load_checked-clause-refused : goal.returns-in-Err-load_checked-clause-refused
returns-in-Err-load_checked-clause-refused g c =
    let name = c.args.name.now in
    let old = store_of g.S.Store c.args.store.now in
    let mid = store_of g.S.Store c.open_table.new.store in
    let new = store_of g.S.Store c.load_checked.new.store in
    let e = c.in-Err-load_checked.ensures in
    subst (λ (f : ChainFault). RefusesBack name old new c.args.steps.now c.load_checked.new.steps f)
    (sym c.of_back-in-Err-load_checked.ensures)
    (not_loaded c.in-Ok.table name old mid new c.args.steps.now c.load_checked.new.steps
    c.in-Err-load_checked.fault c.in-Ok.ensures.may_open
    c.in-Ok.ensures.asked c.in-Ok.ensures.calls e.asked e.calls e.steps e.outside)
