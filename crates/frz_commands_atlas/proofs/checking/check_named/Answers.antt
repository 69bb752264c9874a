use Rattle.frz_commands_atlas.proofs.CheckEnds.{refused_so, small_place, verdict_is_told}
use Rattle.frz_commands_atlas.proofs.checking.check_named.Goals as goal

pub returns-in-Ok : goal.returns-in-Ok
returns-in-Ok g c = λ input.
    let e = c.in-Ok.ensures in
    let written = rw c.deref.ensures.value at c.write_verdict.ensures in
    verdict_is_told c.args.table.now _ c.requires.apart _ _ _ _ e.quiet e.later input _ _ _
    c.in-Ok.checked
    e.cause e.verdict (rw c.status_of.ensures at (c.said.ensures _ _ _ written))

pub end_at-requires : goal.end_at-requires
end_at-requires g c =
    let e = c.in-Err.ensures in
    small_place c.args.table.now _ _ _ _ _ c.in-Err.fault c.requires.few e.refused

pub returns-in-Err : goal.returns-in-Err
returns-in-Err g c = λ input.
    let e = c.in-Err.ensures in
    refused_so c.args.table.now _ c.requires.apart _ _ _ _ e.quiet e.later input _ _ _ c.in-Err.fault
    e.refused e.cause c.end_at.ensures
