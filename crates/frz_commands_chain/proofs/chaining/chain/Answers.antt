use Rattle.std.proofs.Common.{◌≡◌, ◌∙◌, refl, sym, subst, ℕ, List, Option, false}
use Rattle.std.proofs.lemmas.Result.{err_from_is_err_and}
use Rattle.frz_answer.specs.Jobs.{Job}
use Rattle.frz_answer.specs.Words.{taking, unless}
use Rattle.frz_chain.specs.FileOn.{loaded_back}
use Rattle.frz_prelude.proofs.Lemmas.{calls_store, differ, not_taken, same_name, stopped_reply, taken, these_words, through_reply}
use Rattle.frz_commands_chain.specs.Chaining.{chaining_at, is_named_twice}
use Rattle.frz_commands_chain.specs.declared.reading.BothRead.{BothRead}
use Rattle.frz_commands_chain.proofs.ChainAt.{at_stage, own_stop, stopped_at}
use Rattle.frz_commands_chain.proofs.Chains.{chain_stages}
use Rattle.frz_commands_chain.proofs.chaining.chain.Goals as goal

abbrev by_names : List ℕ × List ℕ × List ℕ → Job
by_names names =
    unless (is_named_twice names.0 names.1 names.2) (chaining_at names.0 names.1 names.2)

pub returns-in_err-rules-clause-replies : goal.returns-in_err-rules-clause-replies
returns-in_err-rules-clause-replies g c =
    let p = err_from_is_err_and c.from_residual.result c.from_residual.ensures.1 in
    rw (p.1, p.2) (not_taken by_names _ c.in_err-rules.ensures)

pub returns-then-is_repeated-clause-replies : goal.returns-then-is_repeated-clause-replies
returns-then-is_repeated-clause-replies g c =
    let names = c.in_ok-rules in
    taken by_names _ names.ensures
    (same_name (chaining_at names.rules.now names.back.now names.table.now) _
    (sym c.is_repeated.ensures ∙ c.if-is_repeated.true))

pub returns-in_err-both-clause-replies : goal.returns-in_err-both-clause-replies
returns-in_err-both-clause-replies g c =
    let p = err_from_is_err_and c.from_residual-in_err-both.result
    c.from_residual-in_err-both.ensures.1 in
    let names = c.in_ok-rules in
    let e = c.in_err-both.ensures in
    let stop = c.in_err-both.field-0.0 in
    rw (p.1, p.2)
    (taken by_names _ names.ensures
    (differ (chaining_at names.rules.now names.back.now names.table.now) _
    (sym c.is_repeated.ensures ∙ c.if-is_repeated.false)
    (stopped_reply BothRead _ stop _ _ _ _ e.quiet e.later refl refl (own_stop stop e.stops) e.cause
    (λ files left input out agrees. stopped_at _ _ _ stop files left _ _ e.read agrees))))

pub returns-clause-replies : goal.returns-clause-replies
returns-clause-replies g c =
    let names = c.in_ok-rules in
    let rules = names.rules.now in
    let back = names.back.now in
    let table = names.table.now in
    let e = c.in_ok-both.ensures in
    let both = c.in_ok-both.both in
    taken by_names _ names.ensures
    (differ (chaining_at rules back table) _ (sym c.is_repeated.ensures ∙ c.if-is_repeated.false)
    (through_reply _ (chaining_at rules back table) _ _ _ _ _ _ _ e.quiet e.cause e.later
    (at_stage both.read.text.items both.read.rules (loaded_back both.back) rules back table)
    (λ files left input out after agrees. chain_stages rules back table both files left _ _ _ e.read
    agrees) c.chain_by.ensures))

pub returns-clause-store_unused : goal.returns-clause-store_unused
returns-clause-store_unused g c = λ none.
    let names = c.in_ok-rules in
    let rules = names.rules.now in
    let back = names.back.now in
    let table = names.table.now in
    let uses : (by_names (rules, back, table)).needs.store ≡ false = subst
    (λ (o : Option (List ℕ × List ℕ × List ℕ)). (taking by_names o).needs.store ≡ false)
    (these_words _ names.ensures) none in
    absurd (calls_store (is_named_twice rules back table) (chaining_at rules back table)
    (sym c.is_repeated.ensures ∙ c.if-is_repeated.false) refl uses)
