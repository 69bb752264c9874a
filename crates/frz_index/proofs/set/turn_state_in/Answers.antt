use Rattle.std.proofs.Common.{sym, subst, All, ◌<◌, ◌∙◌}
use Rattle.frz_index.proofs.Bounds.{targets_low, whole_some}
use Rattle.frz_index.proofs.set.turn_state_in.Goals as goal

pub quotient-requires : goal.quotient-requires
quotient-requires c =
    whole_some c.args.plan.now.groups.items c.args.plan.now.whole c.requires.numberable
    c.requires.whole_is

pub turn_at-requires : goal.turn_at-requires
turn_at-requires c =
    subst (All (λ t. t < 64)) (sym (c.deref.ensures.value ∙ c.requires.targets_are))
    (targets_low c.args.plan.now.groups.items)
