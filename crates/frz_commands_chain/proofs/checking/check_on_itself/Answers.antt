use Rattle.frz_commands_chain.proofs.OnItself.{opened_reply, refused_reply_alone}
use Rattle.frz_commands_chain.proofs.checking.check_on_itself.Goals as goal

pub returns-in-Ok : goal.returns-in-Ok
returns-in-Ok g c = λ steps.
    let e = c.in-Ok.ensures in
    opened_reply c.args.table.now _ _ steps e.quiet _ e.may_open
    (record { faults = e.causes.fine; wants = e.causes.wants_fine }) e.asked e.calls

pub returns-in-Err : goal.returns-in-Err
returns-in-Err g c = λ steps.
    let e = c.in-Err.ensures in
    rw c.from.ensures
    (refused_reply_alone c.args.table.now _ _ steps e.quiet c.in-Err.fault e.causes e.may_refuse)
