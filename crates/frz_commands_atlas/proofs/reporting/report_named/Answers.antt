use Rattle.std.proofs.Common.{arith}
use Rattle.frz_atlas_prelude.proofs.Lemmas.{small_unread}
use Rattle.frz_commands_atlas.proofs.ReportEnds.{refused_so, report_is_told}
use Rattle.frz_commands_atlas.proofs.reporting.report_named.Goals as goal

pub returns-in-Ok : goal.returns-in-Ok
returns-in-Ok g c = λ input.
    let e = c.in-Ok.ensures in
    let r = c.report_loaded.ensures in
    rw c.end_of.ensures
    (report_is_told c.args.table.now _ c.requires.apart _ _ _ _ e.quiet r.later input _
    c.in-Ok.loaded
    e.loaded r.steps c.report_loaded.result _ e.cause r.stored r.wrote)

pub end_at-requires : goal.end_at-requires
end_at-requires g c =
    small_unread _ c.requires.few _ _ c.in-Err.fault c.args.table.now c.in-Err.ensures.refused

pub returns-in-Err : goal.returns-in-Err
returns-in-Err g c = λ input.
    let e = c.in-Err.ensures in
    refused_so c.args.table.now _ c.requires.apart _ _ _ _ e.quiet (omega arith) input _
    c.in-Err.fault e.refused (omega arith) _ _ e.cause c.end_at.ensures
