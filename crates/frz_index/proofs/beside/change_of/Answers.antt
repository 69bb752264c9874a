use Rattle.std.proofs.Common.{refl}
use Rattle.frz_index.proofs.DigitsBeside.{unchanged}
use Rattle.frz_index.proofs.beside.change_of.Goals as goal

pub returns-then-not-is_touched : goal.returns-then-not-is_touched
returns-then-not-is_touched c =
    unchanged c.args.p.now c.args.q.now c.args.moved.now c.args.group.now c.requires.moved
    c.requires.chart.in_order (c.is_touched.ensures c.if-not-is_touched.true) c.requires.before _
    refl refl refl
