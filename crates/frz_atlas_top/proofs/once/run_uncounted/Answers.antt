use Rattle.frz_atlas_top.proofs.once.run_uncounted.Goals as goal

pub returns-clause-outcome : goal.returns-clause-outcome
returns-clause-outcome g c =
    (c.atlas.new.steps, rw c.new-steps.ensures at c.atlas.ensures.outcome)
