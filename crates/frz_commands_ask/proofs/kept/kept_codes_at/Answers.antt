use Rattle.std.proofs.Common.{subst, arith}
use Rattle.frz_store.specs.Told.{store_of}
use Rattle.frz_commands_ask.specs.Kept.{IsKeptIn}
use Rattle.frz_commands_ask.proofs.KeptFiles.{opened_kept, refused_kept}
use Rattle.frz_commands_ask.proofs.kept.kept_codes_at.Goals as goal

pub returns-in-Err-clause-kept : goal.returns-in-Err-clause-kept
returns-in-Err-clause-kept g c =
    refused_kept _ _ _ _ _ c.in-Err.fault _ c.from.ensures c.in-Err.ensures.may_refuse

pub returns-in-Ok-clause-kept : goal.returns-in-Ok-clause-kept
returns-in-Ok-clause-kept g c =
    let e = c.in-Ok.ensures in
    let k = c.codes_in.ensures in
    let table = c.in-Ok.table in
    let first = e.asked in
    let then = k.asked in
    let calls = e.calls in
    let more = k.calls in
    opened_kept c.args.kind table c.args.p.now c.args.name.now (store_of g.S.Store c.args.store.now)
    (store_of g.S.Store c.codes_in.new.store)
    e.name (omega (arith, first, then))
    (λ none. let same = k.unasked none in omega (arith, first, same))
    (omega (arith, calls, more)) (λ none. let same = k.unread none in omega (arith, calls, same))
    e.may_open c.codes_in.result
    (subst (λ told. IsKeptIn table c.args.p.now told c.codes_in.result) e.quiet.unwritten.files
    k.kept)
