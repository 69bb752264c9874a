use Rattle.std.proofs.Common.{◌∙◌, ap, sym, arith}
use Rattle.std.proofs.lemmas.Option.{get_or_from_slice_get, slice_get_within}
use Rattle.frz_sets.specs.Views.{ExitLine}
use Rattle.frz_exits.proofs.Lemmas.{first_fits, none_fits}
use Rattle.frz_backs.proofs.behind.value_of.Goals as goal

pub returns-in-Some-get : goal.returns-in-Some-get
returns-in-Some-get c =
    let lines = c.args.lines.now in
    let i = c.in-Some.i in
    let first = first_fits lines c.args.q.now i (sym c.in-Some.ensures) in
    let line = c.in-Some-get.line.now in
    ap (λ (l : ExitLine). l.value)
    (c.line.view_is ∙ (c.in-Some-get.ensures.lookup.1
    ∙ get_or_from_slice_get lines i first.0 line first.1.there))
    ∙ sym first.1.value

pub returns-in-None-get : goal.returns-in-None-get
returns-in-None-get c =
    let lines = c.args.lines.now in
    let first = first_fits lines c.args.q.now c.in-Some.i (sym c.in-Some.ensures) in
    let low = slice_get_within lines c.in-Some.i first.0 first.1.there in
    let past = c.in-None-get.ensures.lookup.3 in
    absurd (omega (arith, low, past))

pub returns-in-None : goal.returns-in-None
returns-in-None c = sym (none_fits c.args.lines.now c.args.q.now (sym c.in-None.ensures))
