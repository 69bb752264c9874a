use Rattle.frz_store.specs.Told.{sink_of}
use Rattle.frz_commands_why.proofs.Told.{ends_failed, ends_told}
use Rattle.frz_commands_why.proofs.telling.tell_why.Goals as goal

pub returns-in-Ok-clause-told : goal.returns-in-Ok-clause-told
returns-in-Ok-clause-told g c =
    ends_told _ _ _ _ _ _ c.in-Ok.status (sink_of g.O.Sink c.args.out.now)
    (sink_of g.O.Sink c.tell_all.new.out) c.in-Ok.ensures.told

pub returns-in-Err-clause-told : goal.returns-in-Err-clause-told
returns-in-Err-clause-told g c =
    ends_failed _ _ _ _ _ _ c.in-Err.field-0 (sink_of g.O.Sink c.args.out.now)
    (sink_of g.O.Sink c.tell_all.new.out) c.in-Err.ensures.told
