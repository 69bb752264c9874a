use Rattle.std.proofs.Common.{◌≡◌, ◌+◌, ◌*◌, length, arith}
use Rattle.std.proofs.lemmas.Result.{err_from_is_err_and}
use Rattle.frz_asks.proofs.Lemmas.{halt_first}
use Rattle.frz_table.specs.Asking.{sizing}
use Rattle.frz_table.specs.Layout.{due_length}
use Rattle.frz_table.proofs.BySize.{as_due, other_size, too_long, too_short}
use Rattle.frz_table.proofs.Stops.{halts}
use Rattle.frz_table.proofs.sizes.check_size.Goals as goal

pub returns-in_err-kept-clause-run : goal.returns-in_err-kept-clause-run
unfolding sizing
returns-in_err-kept-clause-run g c =
    let p = err_from_is_err_and c.from_residual.result c.from_residual.ensures.1 in
    let at : c.len-text.result ≡ length c.args.opened.now.text.items =
    omega (arith, c.len-text.ensures, c.args.opened.now.text.ok) in
    rw (p.1, p.2) (halts _ (halt_first _ (rw at at c.in_err-kept.ensures.run)))

pub returns-then-kept-size-clause-run : goal.returns-then-kept-size-clause-run
returns-then-kept-size-clause-run g c =
    let at : c.len-text.result ≡ length c.args.opened.now.text.items =
    omega (arith, c.len-text.ensures, c.args.opened.now.text.ok) in
    other_size _ _ _ _ _ _ (rw at at c.in_ok-kept.ensures.run) c.if-kept-size.true

pub returns-then-opened-due-clause-run : goal.returns-then-opened-due-clause-run
returns-then-opened-due-clause-run g c =
    let at : c.len-text.result ≡ length c.args.opened.now.text.items =
    omega (arith, c.len-text.ensures, c.args.opened.now.text.ok) in
    let due : 16 + c.len-text.result + 8 * c.from.result
    ≡ due_length c.args.opened.now.text.items c.args.size = omega (arith, at, c.from.ensures) in
    rw due (too_short _ _ _ _ _ _ (rw at at c.in_ok-kept.ensures.run)
    (omega (arith, c.if-kept-size.false)) (omega (arith, due, c.if-opened-due.true)))

pub returns-then-opened-due-2-clause-run : goal.returns-then-opened-due-2-clause-run
returns-then-opened-due-2-clause-run g c =
    let at : c.len-text.result ≡ length c.args.opened.now.text.items =
    omega (arith, c.len-text.ensures, c.args.opened.now.text.ok) in
    let due : 16 + c.len-text.result + 8 * c.from.result
    ≡ due_length c.args.opened.now.text.items c.args.size = omega (arith, at, c.from.ensures) in
    rw due (too_long _ _ _ _ _ _ (rw at at c.in_ok-kept.ensures.run)
    (omega (arith, c.if-kept-size.false)) (omega (arith, due, c.if-opened-due-2.true)))

pub returns-clause-run : goal.returns-clause-run
returns-clause-run g c =
    let at : c.len-text.result ≡ length c.args.opened.now.text.items =
    omega (arith, c.len-text.ensures, c.args.opened.now.text.ok) in
    let due : 16 + c.len-text.result + 8 * c.from.result
    ≡ due_length c.args.opened.now.text.items c.args.size = omega (arith, at, c.from.ensures) in
    let kept = rw at at c.in_ok-kept.ensures.run in
    as_due c.args.name.now _ c.args.size c.in_ok-kept.kept _ _ kept
    (omega (arith, c.if-kept-size.false))
    (omega (arith, due, c.if-opened-due.false, c.if-opened-due-2.false))
