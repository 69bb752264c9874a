use Rattle.std.proofs.Common.{◌∙◌, ap, List, is_some}
use Rattle.frz_sets.specs.Views.{GroupLine}
use Rattle.frz_index.specs.Membership.{number_of}
use Rattle.frz_backs.proofs.DecidingLines.{some_number}
use Rattle.frz_backs.proofs.lines.holds.Goals as goal

pub returns : goal.returns
returns c =
    c.is_some.ensures ∙ ap is_some (c.number_on.ensures.function
    ∙ ap (λ (gs : List GroupLine). number_of gs c.args.q.now) c.set.ensures)
    ∙ some_number c.args.back.now.table.rules.groups c.args.q.now
