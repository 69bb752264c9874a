use Rattle.std.proofs.Common.{sym, ◌∙◌}
use Rattle.frz_index.specs.Membership.{is_member}
use Rattle.frz_backs.specs.FileOn.{loaded_back}
use Rattle.frz_commands_why.proofs.Places.{position_mapped}
use Rattle.frz_commands_why.proofs.decider.holding_table.Goals as goal

pub returns-clause-place : goal.returns-clause-place
returns-clause-place c =
    c.first_holding.ensures.place
    ∙ sym (position_mapped loaded_back (λ b. is_member b.groups c.args.q.now) c.args.backs.now 0)
