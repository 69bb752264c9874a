use Rattle.std.proofs.Common.{arith}
use Rattle.frz_index.proofs.DigitByDigit.{absent_end, absent_more, absent_start}
use Rattle.frz_index.proofs.old.with_absent.Goals as goal

pub loop-k-init : goal.loop-k-init
loop-k-init c =
    absent_start c.args.states c.args.least c.args.count c.args.start
    (omega (arith, c.ranges.start))

pub loop-k-preserved : goal.loop-k-preserved
loop-k-preserved c =
    absent_more c.args.states c.args.least c.args.count c.args.start c.loop-k.k c.loop-k.number
    c.with_digit-number.result c.radix.result c.loop-k.auto.k c.loop-k.invariant c.radix.ensures
    c.with_digit-number.ensures

pub returns : goal.returns
returns c =
    absent_end c.args.states c.args.least c.args.count c.args.start c.loop-k.k c.args.most
    c.loop-k.number (omega (arith, c.loop-k-test.false, c.loop-k.auto.k-end c.requires.order))
    c.loop-k.invariant
