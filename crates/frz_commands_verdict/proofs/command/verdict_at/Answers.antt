use Rattle.std.proofs.Common.{ℕ, subst, sym}
use Rattle.std.specs.Prelude.{map}
use Rattle.std.specs.String.{string_bytes}
use Rattle.std.proofs.lemmas.List.{length-map}
use Rattle.frz_store.specs.Told.{sink_of}
use Rattle.frz_answer.specs.Ends.{Said}
use Rattle.frz_answer.specs.declared.status.Status.TheVariants.{Success}
use Rattle.frz_commands_verdict.specs.Ending.{EndsVerdict, IsPlaceUpTo}
use Rattle.frz_commands_verdict.specs.Texts.{verdict_text}
use Rattle.frz_commands_verdict.proofs.Found.{lines_writable}
use Rattle.frz_commands_verdict.proofs.Running.{outside_is_told, place_up_to, refused_so, verdict_is_told}
use Rattle.frz_commands_verdict.proofs.command.verdict_at.Goals as goal

pub write_told-requires-clause-writable : goal.write_told-requires-clause-writable
write_told-requires-clause-writable g c =
    let found = rw c.in-Ok-Some.field-0-is at c.in-Ok-Some.ensures.found in
    rw c.deref.ensures.value
    (lines_writable c.args.given.now.table.now (map string_bytes c.args.given.now.behind.now)
    c.args.p.now _ _ _ _ c.in-Ok-Some.told c.requires.few found)

pub returns-in-Ok-Some : goal.returns-in-Ok-Some
returns-in-Ok-Some g c = λ input.
    let e = c.in-Ok-Some.ensures in
    let told = c.in-Ok-Some.told in
    let found = rw c.in-Ok-Some.field-0-is at e.found in
    let written = rw c.deref.ensures.value at c.write_told.ensures in
    verdict_is_told c.args.given.now.table.now (map string_bytes c.args.given.now.behind.now)
    c.requires.apart c.args.p.now _ _ _ _ e.quiet e.later input _ _ _ told found e.cause
    (subst (λ (n : ℕ). Said Success (verdict_text c.args.p.now told.verdict n told.lines.items)
    c.said.result (sink_of g.O.Sink c.args.out.now) (sink_of g.O.Sink c.write_told.new.out))
    (sym (length-map c.args.given.now.behind.now string_bytes)) (c.said.ensures _ _ _ written))

pub returns-in-Ok-None : goal.returns-in-Ok-None
returns-in-Ok-None g c = λ input.
    let e = c.in-Ok-None.ensures in
    let found = rw c.in-Ok-None.field-0-is at e.found in
    outside_is_told c.args.given.now.table.now (map string_bytes c.args.given.now.behind.now)
    c.requires.apart c.args.p.now _ _ _ _ e.quiet e.later input _ _ _ found e.cause c.end.ensures

pub end_verdict-requires-clause-place : goal.end_verdict-requires-clause-place
end_verdict-requires-clause-place g c =
    subst (λ (n : ℕ). IsPlaceUpTo n c.in-Err.fault)
    (length-map c.args.given.now.behind.now string_bytes)
    (place_up_to c.args.given.now.table.now (map string_bytes c.args.given.now.behind.now) _ _ _ _
    c.in-Err.fault c.in-Err.ensures.refused)

pub returns-in-Err : goal.returns-in-Err
returns-in-Err g c = λ input.
    let e = c.in-Err.ensures in
    refused_so c.args.given.now.table.now (map string_bytes c.args.given.now.behind.now)
    c.requires.apart c.args.p.now _ _ _ _ e.quiet e.later input _ _ _ c.in-Err.fault e.refused
    e.cause
    (subst (λ (n : ℕ). EndsVerdict n c.in-Err.fault c.end_verdict.result
    (sink_of g.O.Sink c.args.out.now) (sink_of g.O.Sink c.end_verdict.new.out))
    (sym (length-map c.args.given.now.behind.now string_bytes)) c.end_verdict.ensures)
