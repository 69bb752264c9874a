use Rattle.std.proofs.Common.{◌≡◌, ◌∙◌, refl, sym, subst, ℕ, List, true, false}
use Rattle.std.proofs.lemmas.Result.{err_from_is_err_and}
use Rattle.std.proofs.lemmas.Slice.Eq.{bytes_eq-Decides}
use Rattle.std.specs.Str.{bytes_eq}
use Rattle.frz_store.specs.Told.{store_of}
use Rattle.frz_answer.specs.Jobs.{Job}
use Rattle.frz_prelude.specs.Replies.{Replies}
use Rattle.frz_prelude.proofs.Lemmas.{not_taken, said_reply, stopped_reply, taken}
use Rattle.frz_chain.specs.Chains.{judgement}
use Rattle.frz_chain.specs.declared.checking.ChainVerdict.{ChainVerdict}
use Rattle.frz_commands_chain.specs.CheckMeans.{checking_pair}
use Rattle.frz_commands_chain.specs.Stops.{stop_of_chain}
use Rattle.frz_commands_chain.proofs.ChainStops.{chain_cause}
use Rattle.frz_commands_chain.proofs.Pairs.{judged_so, own_refusal, own_verdict, stopped_so}
use Rattle.frz_commands_chain.proofs.checking.chaincheck.Goals as goal

abbrev by_names : List ℕ × List ℕ → Job
by_names names = checking_pair names.0 names.1

pub returns-in_err-table-clause-replies : goal.returns-in_err-table-clause-replies
returns-in_err-table-clause-replies g c =
    let p = err_from_is_err_and c.from_residual.result c.from_residual.ensures.1 in
    rw (p.1, p.2) (not_taken by_names _ c.in_err-table.ensures)

pub returns-then-eq-clause-replies : goal.returns-then-eq-clause-replies
returns-then-eq-clause-replies g c =
    let table = c.in_ok-table.table.now in
    let back = c.in_ok-table.back.now in
    let steps = c.args.steps.now in
    let same : bytes_eq table back ≡ true = sym c.eq.ensures ∙ c.if-eq.true in
    taken by_names _ c.in_ok-table.ensures
    (subst (λ (b : List ℕ). Replies (checking_pair table b) c.check_on_itself.result
    (store_of g.S.Store c.args.store.now) (store_of g.S.Store c.check_on_itself.new.store) steps
    steps) ((bytes_eq-Decides table back).0 same) (c.check_on_itself.ensures steps))

pub returns-in-Ok-clause-replies : goal.returns-in-Ok-clause-replies
returns-in-Ok-clause-replies g c =
    let e = c.in-Ok.ensures in
    let differ : bytes_eq c.in_ok-table.table.now c.in_ok-table.back.now ≡ false =
    sym c.eq.ensures ∙ c.if-eq.false in
    let verdict = c.in-Ok.verdict in
    taken by_names _ c.in_ok-table.ensures
    (said_reply _ c.reply_on.result _ _ _ _ _ _ c.reply_on.ensures.status
    (c.reply_on.ensures.text _ _ e.verdict.sizes) e.quiet e.cause e.later
    (own_verdict (judgement verdict))
    (λ files left input out agrees. judged_so _ _ files left _ _ differ agrees verdict e.verdict))

pub returns-in-Err-clause-replies : goal.returns-in-Err-clause-replies
returns-in-Err-clause-replies g c =
    let e = c.in-Err.ensures in
    let differ : bytes_eq c.in_ok-table.table.now c.in_ok-table.back.now ≡ false =
    sym c.eq.ensures ∙ c.if-eq.false in
    let fault = c.in-Err.fault in
    let old = store_of g.S.Store c.args.store.now in
    rw c.stop_of.ensures
    (taken by_names _ c.in_ok-table.ensures
    (stopped_reply ChainVerdict _ (stop_of_chain fault) _ _ _ _ e.quiet e.later refl refl
    (own_refusal _ _ fault e.refused.refuses)
    (chain_cause ChainVerdict ChainVerdict fault old old _ (record { faults = refl; wants = refl })
    e.cause)
    (λ files left input out agrees. stopped_so _ _ files left _ _ differ agrees fault e.refused)))
