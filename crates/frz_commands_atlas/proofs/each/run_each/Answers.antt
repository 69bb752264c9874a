use Rattle.std.specs.Prelude.{map}
use Rattle.std.specs.String.{string_bytes}
use Rattle.frz_store.specs.Told.{store_of}
use Rattle.frz_atlas_prelude.proofs.Lemmas.{ran_given, ran_ungiven}
use Rattle.frz_commands_atlas.specs.EachMeans.{each_named}
use Rattle.frz_commands_atlas.proofs.each.run_each.Goals as goal

pub returns-in-Ok-clause-ran : goal.returns-in-Ok-clause-ran
returns-in-Ok-clause-ran g c = λ input.
    ran_given each_named (map string_bytes c.args.words.now) _ _ _ _ c.in-Ok.ensures.named
    (c.each_from.ensures.ran input)

pub returns-in-Err-clause-ran : goal.returns-in-Err-clause-ran
returns-in-Err-clause-ran g c = λ input.
    ran_ungiven each_named (map string_bytes c.args.words.now) _ _ _ c.in-Err.why
    c.in-Err.ensures.refused
    (c.refuse.ensures (store_of g.S.Store c.args.store.now) input _)
