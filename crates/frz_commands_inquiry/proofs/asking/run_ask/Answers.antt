use Rattle.std.specs.Prelude.{map}
use Rattle.std.specs.String.{string_bytes}
use Rattle.frz_store.specs.Told.{store_of, source_of}
use Rattle.frz_atlas_prelude.proofs.Lemmas.{ran_named, ran_refused}
use Rattle.frz_commands_inquiry.specs.Asking.{asking_named}
use Rattle.frz_commands_inquiry.proofs.asking.run_ask.Goals as goal

pub returns-in-Ok-clause-ran : goal.returns-in-Ok-clause-ran
returns-in-Ok-clause-ran g c =
    ran_named asking_named (map string_bytes c.args.words.now) _ _ _
    c.in-Ok.table.now (map string_bytes c.in-Ok.behind.now) c.in-Ok.ensures.named c.ask_at.ensures

pub returns-in-Err-clause-ran : goal.returns-in-Err-clause-ran
returns-in-Err-clause-ran g c =
    ran_refused asking_named (map string_bytes c.args.words.now) _ _ _ c.in-Err.why
    c.in-Err.ensures.refused
    (c.refuse.ensures (store_of g.S.Store c.args.store.now)
    (source_of g.I.Source c.args.input.now) _)
