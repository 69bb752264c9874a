use Rattle.std.proofs.Common.{◌<◌, arith, ap}
use Rattle.frz_board.specs.Moving.{Step}
use Rattle.frz_unmove.proofs.StepsBack.{told_before}
use Rattle.frz_unmove.proofs.earlier.number_before.Goals as goal

pub returns-in-Some-clause-number : goal.returns-in-Some-clause-number
returns-in-Some-clause-number c i =
    let m = c.args.m in
    let lf : m.from < 64 = omega (arith, ap (λ (s : Step). s.from) c.m.view_is) in
    let lt : m.to < 64 = omega (arith, ap (λ (s : Step). s.to) c.m.view_is) in
    told_before c.args.q.now m c.args.taken c.args.target.now c.in-Some.man c.requires.valid lf lt
    c.in-Some.ensures c.args.set.now c.number_by_board.result i (c.number_by_board.ensures i)
