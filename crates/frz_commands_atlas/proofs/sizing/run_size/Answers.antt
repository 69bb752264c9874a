use Rattle.frz_store.specs.Told.{store_of}
use Rattle.frz_answer.proofs.Lemmas.{as_taken}
use Rattle.frz_commands_atlas.specs.Sizing.{sizing_at}
use Rattle.frz_commands_atlas.proofs.sizing.run_size.Goals as goal

pub returns-in-Some-clause-ran : goal.returns-in-Some-clause-ran
returns-in-Some-clause-ran g c =
    λ input steps. as_taken _ _ _ sizing_at _ _ c.in-Some.ensures (c.size_named.ensures input steps)

pub returns-in-None-clause-ran : goal.returns-in-None-clause-ran
returns-in-None-clause-ran g c = λ input steps.
    as_taken _ _ _ sizing_at _ _ c.in-None.ensures
    (c.refuse.ensures (store_of g.S.Store c.args.store.now) input steps)
