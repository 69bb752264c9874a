use Rattle.std.specs.Prelude.{map}
use Rattle.std.specs.String.{string_bytes}
use Rattle.frz_store.specs.Told.{store_of}
use Rattle.frz_prelude.proofs.Lemmas.{as_read}
use Rattle.frz_commands_atlas.specs.EachMeans.{each_at}
use Rattle.frz_commands_atlas.proofs.each.each_from.Goals as goal

pub returns-in-Ok-clause-ran : goal.returns-in-Ok-clause-ran
returns-in-Ok-clause-ran g c = λ input.
    let names = c.args.given.now in
    as_read (each_at names.table.now (map string_bytes names.behind.now)) _ _ _ _ _ _
    c.in-Ok.ensures.read c.as_bytes.ensures.value (c.each_at.ensures input)

pub returns-in-Err-clause-ran : goal.returns-in-Err-clause-ran
returns-in-Err-clause-ran g c = λ input.
    let names = c.args.given.now in
    as_read (each_at names.table.now (map string_bytes names.behind.now)) _ _ _ _ _ _
    c.in-Err.ensures.read c.as_bytes.ensures.value
    (c.refuse_named.ensures (store_of g.S.Store c.args.store.now) input _)
