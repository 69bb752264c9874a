use Rattle.std.proofs.Common.{◌<◌, ◌-◌, length, sym, arith}
use Rattle.frz_retro.proofs.Laws.{in_contains}
use Rattle.frz_retro.proofs.start.start_of.Goals as goal

pub after_arm-s-requires-clause-short : goal.after_arm-s-requires-clause-short
after_arm-s-requires-clause-short c =
    let here : c.arms.left - 1 < length c.args.arms.now =
    let x = c.arms.invariant.within in let y = c.arms-test.true in omega (arith, x, y) in
    c.requires.short c.index-arms-left.result
    (in_contains c.args.arms.now c.index-arms-left.result
    (c.arms.left - 1, here, sym c.index-arms-left.is))
