use Rattle.std.proofs.Common.{List, arith, subst}
use Rattle.frz_store.specs.Told.{sink_of}
use Rattle.frz_backs.specs.BackTable.{BackTable}
use Rattle.frz_atlas_prelude.proofs.Lemmas.{small_unread}
use Rattle.frz_commands_why.specs.Ending.{EndsIn}
use Rattle.frz_commands_why.proofs.Running.{refused_so, why_is_told}
use Rattle.frz_commands_why.proofs.why.why_at.Goals as goal

pub returns-in-Ok : goal.returns-in-Ok
returns-in-Ok g c = λ input.
    let e = c.in-Ok.ensures in
    let r = c.why_in.ensures in
    why_is_told c.one_failing_way.ensures.there c.args.table.now _ c.requires.apart c.args.side
    c.args.p.now _ _ _ _ e.quiet r.later input _ c.in-Ok.loaded e.loaded r.steps
    c.why_in.result _ e.cause
    (subst (λ (l : List BackTable). EndsIn c.in-Ok.loaded.table l c.args.side c.args.p.now c.why_in.result
    (sink_of g.O.Sink c.args.out.now) (sink_of g.O.Sink c.why_in.new.out)) c.deref.ensures.value
    r.told)

pub end_at-requires : goal.end_at-requires
end_at-requires g c =
    small_unread _ c.requires.few _ _ c.in-Err.fault c.args.table.now c.in-Err.ensures.refused

pub returns-in-Err : goal.returns-in-Err
returns-in-Err g c = λ input.
    let e = c.in-Err.ensures in
    refused_so c.one_failing_way.ensures.there c.args.table.now _ c.requires.apart c.args.side
    c.args.p.now _ _ _ _ e.quiet (omega arith) input _ c.in-Err.fault e.refused (omega arith) _ _
    e.cause c.end_at.ensures
