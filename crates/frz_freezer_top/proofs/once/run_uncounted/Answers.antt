use Rattle.frz_freezer_top.proofs.once.run_uncounted.Goals as goal

pub returns-clause-outcome : goal.returns-clause-outcome
returns-clause-outcome g c =
    (c.freezer.new.steps, rw c.new-steps.ensures at c.freezer.ensures.outcome)
