use Rattle.std.proofs.Common.{◌≡◌, ◌∙◌, refl, sym, ap, subst, ℕ, List, true, false, Some, Result, Err}
use Rattle.std.proofs.lemmas.Slice.Eq.{bytes_eq-Decides}
use Rattle.std.specs.Str.{bytes_eq}
use Rattle.frz_store.specs.Told.{store_of}
use Rattle.frz_rules.specs.Text.{rules_of}
use Rattle.frz_table.specs.declared.kind.FileKind.TheVariants.{Plain}
use Rattle.frz_table.specs.Opening.{opened, table_format}
use Rattle.frz_prelude.specs.declared.refused.Refused.TheVariants as refusals
use Rattle.frz_prelude.specs.declared.stop.Stop.{Stop}
use Rattle.frz_prelude.specs.declared.stop.Stop.TheVariants.{Refused}
use Rattle.frz_commands_chain.specs.Reading.{AreBothRead}
use Rattle.frz_commands_chain.specs.declared.reading.BothRead.{BothRead}
use Rattle.frz_commands_chain.proofs.BothFound.{back_read, back_refused, not_again}
use Rattle.frz_commands_chain.proofs.reading.read_both.Goals as goal

pub returns-then-eq-clause-read : goal.returns-then-eq-clause-read
returns-then-eq-clause-read g c =
    let rules = c.args.rules.now in
    let old = store_of g.S.Store c.args.store.now in
    let mid = store_of g.S.Store c.read_rules_text.new.store in
    let read = c.in_ok-read.read in
    let e = c.in_ok-read.ensures in
    let why = c.why_no_table.result in
    let text : c.deref.result.now ≡ read.text.items = c.deref.ensures.value in
    let same : bytes_eq rules c.args.back.now ≡ true = sym c.eq.ensures ∙ c.if-eq.true in
    subst (λ (back : List ℕ). AreBothRead rules back (Err (Refused (refusals.Back why))) old mid
    c.args.steps.now c.args.steps.now) ((bytes_eq-Decides rules c.args.back.now).0 same)
    (not_again rules read why old mid c.args.steps.now e.read
    (sym (ap (λ (t : List ℕ). opened (table_format Plain) (Some t)) text)
    ∙ c.why_no_table.ensures read.rules (ap rules_of text ∙ e.read.due.1)))

pub returns-in-Ok-clause-read : goal.returns-in-Ok-clause-read
returns-in-Ok-clause-read g c =
    let rules = c.args.rules.now in
    let back = c.args.back.now in
    let old = store_of g.S.Store c.args.store.now in
    let mid = store_of g.S.Store c.read_rules_text.new.store in
    let new = store_of g.S.Store c.open_back.new.store in
    let read = c.in_ok-read.read in
    let e = c.in_ok-read.ensures in
    let differ : bytes_eq rules back ≡ false = sym c.eq.ensures ∙ c.if-eq.false in
    back_read rules back read old mid new c.args.steps.now c.open_back.new.steps e.read
    e.quiet.unwritten.files differ
    (record { read = read; back = c.in-Ok.back }) refl c.in-Ok.ensures.opened

pub returns-in-Err-clause-read : goal.returns-in-Err-clause-read
returns-in-Err-clause-read g c =
    let rules = c.args.rules.now in
    let back = c.args.back.now in
    let old = store_of g.S.Store c.args.store.now in
    let mid = store_of g.S.Store c.read_rules_text.new.store in
    let new = store_of g.S.Store c.open_back.new.store in
    let read = c.in_ok-read.read in
    let e = c.in_ok-read.ensures in
    let differ : bytes_eq rules back ≡ false = sym c.eq.ensures ∙ c.if-eq.false in
    let result : Stop → Result BothRead Stop = λ s. Err s in
    subst (λ (s : Stop). AreBothRead rules back (result s) old new c.args.steps.now
    c.open_back.new.steps) (sym c.stop_of.ensures)
    (back_refused rules back read old mid new c.args.steps.now c.open_back.new.steps
    e.read e.quiet.unwritten.files differ
    c.in-Err.fault c.in-Err.ensures.refused)
