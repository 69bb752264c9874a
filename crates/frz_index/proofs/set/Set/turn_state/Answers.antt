use Rattle.std.proofs.Common.{All, ◌<◌, ◌∙◌, subst, sym}
use Rattle.frz_index.proofs.Bounds.{targets_low}
use Rattle.frz_index.proofs.set.Set.turn_state.Goals as goal

pub turn_at-requires : goal.turn_at-requires
turn_at-requires c =
    subst (All (λ t. t < 64)) (sym (c.deref.ensures.value ∙ c.self.invariant.targets_are))
    (targets_low c.self.inside.plan.groups.items)
