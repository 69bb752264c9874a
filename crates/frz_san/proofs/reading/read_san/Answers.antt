use Rattle.std.proofs.Common.{Some, None, subst, sym, ◌∙◌}
use Rattle.frz_san.proofs.Found.{IsRead, read_unsigned, read_empty, read_none, read_signed, read_other, back}
use Rattle.frz_san.proofs.reading.read_san.Goals as goal

pub returns-in-Some-clause-exact : goal.returns-in-Some-clause-exact
returns-in-Some-clause-exact g c =
    read_unsigned c.args.p.now c.args.text.now c.in-Some.m c.in-Some.ensures

pub returns-in-Some-clause-back : goal.returns-in-Some-clause-back
returns-in-Some-clause-back g c =
    back c.args.p.now c.args.text.now (Some c.in-Some.m) (returns-in-Some-clause-exact g c)

pub returns-in_err-sign-clause-exact : goal.returns-in_err-sign-clause-exact
returns-in_err-sign-clause-exact g c =
    subst (IsRead c.args.p.now c.args.text.now) (sym c.from_residual.ensures)
    (read_empty c.args.p.now c.args.text.now c.in_err-sign.ensures.cases c.in_default.ensures)

pub returns-in_err-m-clause-exact : goal.returns-in_err-m-clause-exact
returns-in_err-m-clause-exact g c =
    subst (IsRead c.args.p.now c.args.text.now) (sym c.from_residual-in_err-m.ensures)
    (read_none c.args.p.now c.args.text.now c.in_ok-sign.front.now c.in_ok-sign.sign.now
    c.in_ok-sign.ensures.cases.0 c.in_default.ensures c.in_err-m.ensures)

pub returns-in_err-m-clause-back : goal.returns-in_err-m-clause-back
returns-in_err-m-clause-back g c = back c.args.p.now c.args.text.now c.from_residual-in_err-m.result
    (returns-in_err-m-clause-exact g c)

pub returns-then-eq-clause-exact : goal.returns-then-eq-clause-exact
returns-then-eq-clause-exact g c =
    read_signed c.args.p.now c.args.text.now c.in_ok-sign.front.now c.in_ok-sign.sign.now
    c.in_ok-sign.ensures.cases.0 c.in_default.ensures
    c.in_ok-m.m c.sign_after.result c.in_ok-m.ensures c.sign_after.ensures.sign
    (sym c.eq.ensures ∙ c.if-eq.true)

pub returns-then-eq-clause-back : goal.returns-then-eq-clause-back
returns-then-eq-clause-back g c =
    back c.args.p.now c.args.text.now (Some c.in_ok-m.m) (returns-then-eq-clause-exact g c)

pub returns-else-eq-clause-exact : goal.returns-else-eq-clause-exact
returns-else-eq-clause-exact g c =
    read_other c.args.p.now c.args.text.now c.in_ok-sign.front.now c.in_ok-sign.sign.now
    c.in_ok-sign.ensures.cases.0 c.in_default.ensures
    c.in_ok-m.m c.sign_after.result c.in_ok-m.ensures c.sign_after.ensures.sign
    (sym c.eq.ensures ∙ c.if-eq.false)

pub returns-else-eq-clause-back : goal.returns-else-eq-clause-back
returns-else-eq-clause-back g c =
    back c.args.p.now c.args.text.now None (returns-else-eq-clause-exact g c)
