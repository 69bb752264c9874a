use Rattle.std.proofs.Common.{◌≡◌, ◌∙◌, ap, sym, true, false}
use Rattle.frz_sets.specs.Views.{ExitLine}
use Rattle.frz_exits.specs.Conditions.{conditions_hold}
use Rattle.frz_exits.proofs.FirstLines.{line_holds, line_fails, none_left}
use Rattle.frz_exits.proofs.book.value_of.Goals as goal

pub returns-then-all_hold : goal.returns-then-all_hold
returns-then-all_hold c =
    let conds = ap (λ (e : ExitLine). e.conds) (sym c.line.view_is) ∙ sym c.deref.ensures.value in
    let holds : conditions_hold c.args.q.now c.line-item.result.conds ≡ true =
    ap (λ cs. conditions_hold c.args.q.now cs) conds
    ∙ (sym c.all_hold.ensures ∙ c.if-all_hold.true) in
    ap (λ (e : ExitLine). e.value) c.line.view_is
    ∙ sym (c.loop-line.invariant ∙ line_holds c.args.lines.now c.loop-line.line-index c.args.q.now
    c.line-item.result c.loop-line-test.true c.line-item.is holds)

pub loop-line-preserved : goal.loop-line-preserved
loop-line-preserved c =
    let conds = ap (λ (e : ExitLine). e.conds) (sym c.line.view_is) ∙ sym c.deref.ensures.value in
    let fails : conditions_hold c.args.q.now c.line-item.result.conds ≡ false =
    ap (λ cs. conditions_hold c.args.q.now cs) conds
    ∙ (sym c.all_hold.ensures ∙ c.if-all_hold.false) in
    c.loop-line.invariant
    ∙ line_fails c.args.lines.now c.loop-line.line-index c.args.q.now c.line-item.result
    c.loop-line-test.true c.line-item.is fails

pub returns : goal.returns
returns c =
    sym (c.loop-line.invariant ∙ none_left c.args.lines.now c.loop-line.line-index c.args.q.now
    c.loop-line-test.false)
