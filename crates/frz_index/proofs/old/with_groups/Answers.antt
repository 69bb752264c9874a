use Rattle.std.proofs.Common.{arith}
use Rattle.frz_index.proofs.DigitByDigit.{old_end, old_start, old_step}
use Rattle.frz_index.proofs.old.with_groups.Goals as goal

pub loop-g-init : goal.loop-g-init
loop-g-init c =
    old_start c.args.p.now c.args.groups.now c.args.start (omega (arith, c.ranges.start))

pub loop-g-preserved : goal.loop-g-preserved
loop-g-preserved c =
    old_step c.args.p.now c.args.groups.now c.args.start c.loop-g.g-index c.loop-g.number
    c.in_ok-number.number c.g-item.result c.loop-g-test.true c.g-item.is c.loop-g.invariant
    c.in_ok-number.ensures.0 c.in_ok-number.ensures.1

pub returns : goal.returns
returns c =
    old_end c.args.p.now c.args.groups.now c.args.start c.loop-g.g-index c.loop-g.number
    c.loop-g-test.false c.loop-g.invariant
