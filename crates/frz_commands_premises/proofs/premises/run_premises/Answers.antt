use Rattle.std.specs.Prelude.{map}
use Rattle.std.specs.String.{string_bytes}
use Rattle.frz_store.specs.Told.{store_of}
use Rattle.frz_atlas_prelude.proofs.Lemmas.{ran_named, ran_refused}
use Rattle.frz_commands_premises.specs.Premising.{premising_at}
use Rattle.frz_commands_premises.proofs.premises.run_premises.Goals as goal

pub returns-in-Ok-clause-ran : goal.returns-in-Ok-clause-ran
returns-in-Ok-clause-ran g c = λ input.
    ran_named (λ names. premising_at names.0 names.1)
    (map string_bytes c.args.words.now) _ _ _ c.in-Ok.rules.now
    (map string_bytes c.in-Ok.behind.now) c.in-Ok.ensures.named (c.tell_named.ensures input)

pub returns-in-Err-clause-ran : goal.returns-in-Err-clause-ran
returns-in-Err-clause-ran g c = λ input.
    ran_refused (λ names. premising_at names.0 names.1)
    (map string_bytes c.args.words.now) _ _ _ c.in-Err.why c.in-Err.ensures.refused
    (c.refuse.ensures (store_of g.S.Store c.args.store.now) input _)
