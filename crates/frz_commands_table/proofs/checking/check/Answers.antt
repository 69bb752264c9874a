use Rattle.std.proofs.Common.{refl}
use Rattle.std.proofs.lemmas.Result.{err_from_is_err_and}
use Rattle.frz_prelude.specs.Stops.{stop_of_table}
use Rattle.frz_prelude.proofs.Lemmas.{not_taken, said_reply, stop_own, stopped_reply, table_cause, taken}
use Rattle.frz_commands_table.specs.declared.judging.Judged.{Judged}
use Rattle.frz_commands_table.specs.CheckMeans.{checking_at}
use Rattle.frz_commands_table.proofs.CheckEnds.{judged_so, own_verdict, stopped_so}
use Rattle.frz_commands_table.proofs.checking.check.Goals as goal

pub returns-in_err-table-clause-replies : goal.returns-in_err-table-clause-replies
returns-in_err-table-clause-replies g c =
    let p = err_from_is_err_and c.from_residual.result c.from_residual.ensures.1 in
    rw (p.1, p.2) (not_taken checking_at _ c.in_err-table.ensures)

pub returns-in_err-judged-clause-replies : goal.returns-in_err-judged-clause-replies
returns-in_err-judged-clause-replies g c =
    let p = err_from_is_err_and c.from_residual-in_err-judged.result
    c.from_residual-in_err-judged.ensures.1 in
    let e = c.in_err-judged.ensures in
    let fault = c.in_err-judged.field-0.0 in
    let job = checking_at c.in_ok-table.table.now in
    rw (p.1, p.2)
    (taken checking_at _ c.in_ok-table.ensures
    (stopped_reply Judged job (stop_of_table fault) _ _ _ _ e.quiet e.later refl refl
    (stop_own fault job.statuses refl refl) (table_cause Judged Judged fault _ _ e.causes)
    (λ files left input out agrees. stopped_so _ files left _ _ agrees fault e.refused)))

pub returns-clause-replies : goal.returns-clause-replies
returns-clause-replies g c =
    let e = c.in_ok-judged.ensures in
    let judged = c.in_ok-judged.judged in
    taken checking_at _ c.in_ok-table.ensures
    (said_reply _ c.reply_on.result _ _ _ _ _ _ c.reply_on.ensures.status c.reply_on.ensures.text
    e.quiet (record { faults = e.causes.fine; wants = e.causes.wants_fine }) e.later
    (own_verdict judged.verdict)
    (λ files left input out agrees. judged_so _ files left _ _ agrees judged e.judged))
