use Rattle.frz_index.proofs.DigitByDigit.{group_done}
use Rattle.frz_index.proofs.old.with_group.Goals as goal

pub returns : goal.returns
returns c =
    group_done c.args.p.now _ c.args.g.now _ c.args.start c.in_ok-count.count c.in_ok-count.number
    c.with_absent-absent.result c.g.view_is c.as_slice-states.ensures.value c.if-count-g.false
    c.in_ok-count.ensures c.with_absent-absent.ensures
