use Rattle.frz_plane_arms.proofs.crowning.early_pair.Goals as goal

pub next_pair-requires : goal.next_pair-requires
next_pair-requires c = c.loop.invariant
