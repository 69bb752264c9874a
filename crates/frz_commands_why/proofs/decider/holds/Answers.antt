use Rattle.std.proofs.Common.{ap, ◌∙◌}
use Rattle.std.specs.Prelude.{is_some}
use Rattle.frz_commands_why.proofs.Places.{has_number}
use Rattle.frz_commands_why.proofs.decider.holds.Goals as goal

pub returns : goal.returns
returns c =
    c.is_some.ensures ∙ ap is_some c.number_on.ensures.function
    ∙ has_number c.args.set.now c.args.q.now
