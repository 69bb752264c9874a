use Rattle.std.proofs.Common.{ap, ◌∙◌}
use Rattle.frz_exits.specs.Conditions.{in_range}
use Rattle.frz_exits.proofs.conditions.test_holds.Goals as goal

pub returns-in-Count : goal.returns-in-Count
returns-in-Count c =
    rw c.in-Count.is
    (c.is_in_range.ensures ∙ ap (λ n. in_range c.in-Count.least c.in-Count.most n)
    c.count.ensures)
