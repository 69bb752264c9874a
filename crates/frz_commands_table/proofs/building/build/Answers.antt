use Rattle.std.proofs.Common.{refl, sym, subst, ap, ◌∙◌, ◌≤◌, ◌+◌, ◌≡◌, ℕ, List, Ok, arith}
use Rattle.std.proofs.lemmas.Result.{err_from_is_err_and}
use Rattle.std.specs.Str.{bytes_eq}
use Rattle.frz_store.specs.Files.{Files}
use Rattle.frz_answer.specs.Jobs.{Job}
use Rattle.frz_answer.specs.Words.{unless}
use Rattle.frz_prelude.specs.RulesFiles.{asked_of, reads_of, or_fault, rules_held}
use Rattle.frz_prelude.specs.declared.rules_at.RulesText.{RulesText}
use Rattle.frz_prelude.proofs.Lemmas.{differ, not_taken, same_name, stopped_reply, taken, through_reply}
use Rattle.frz_commands_table.specs.Building.{calls_by, steps_by}
use Rattle.frz_commands_table.specs.BuildMeaning.{building_at}
use Rattle.frz_commands_table.proofs.BuildAsked.{found_rules, own_stop, stopped_at}
use Rattle.frz_commands_table.proofs.BuildStages.{is_read_at, at_stage}
use Rattle.frz_commands_table.proofs.building.build.Goals as goal

abbrev by_names : List ℕ × List ℕ → Job
by_names names = unless (bytes_eq names.0 names.1) (building_at names.0 names.1)

pub returns-in_err-rules-clause-replies : goal.returns-in_err-rules-clause-replies
returns-in_err-rules-clause-replies g c =
    let p = err_from_is_err_and c.from_residual.result c.from_residual.ensures.1 in
    rw (p.1, p.2) (not_taken by_names _ c.in_err-rules.ensures)

pub returns-then-eq-clause-replies : goal.returns-then-eq-clause-replies
returns-then-eq-clause-replies g c =
    taken by_names _ c.in_ok-rules.ensures
    (same_name (building_at c.in_ok-rules.rules.now c.in_ok-rules.table.now) _
    (sym c.eq.ensures ∙ c.if-eq.true))

pub returns-in_err-read-clause-replies : goal.returns-in_err-read-clause-replies
returns-in_err-read-clause-replies g c =
    let p = err_from_is_err_and c.from_residual-in_err-read.result
    c.from_residual-in_err-read.ensures.1 in
    let e = c.in_err-read.ensures in
    let stop = c.in_err-read.field-0.0 in
    rw (p.1, p.2)
    (taken by_names _ c.in_ok-rules.ensures
    (differ (building_at c.in_ok-rules.rules.now c.in_ok-rules.table.now) _
    (sym c.eq.ensures ∙ c.if-eq.false)
    (stopped_reply RulesText _ stop _ _ _ _ e.quiet (omega arith) refl refl
    (own_stop _ stop e.read.due) e.cause
    (λ files left input out agrees. stopped_at _ _ stop files left _ _ e.read (omega arith)
    agrees))))

pub returns-clause-replies : goal.returns-clause-replies
returns-clause-replies g c =
    let e = c.in_ok-read.ensures in
    let rules = c.in_ok-rules.rules.now in
    let table = c.in_ok-rules.table.now in
    let read = c.in_ok-read.read in
    taken by_names _ c.in_ok-rules.ensures
    (differ (building_at rules table) _ (sym c.eq.ensures ∙ c.if-eq.false)
    (through_reply _ (building_at rules table) _ _ _ _ _ _ _ e.quiet e.cause (omega arith)
    (at_stage read.text.items read.rules rules table)
    (λ files left input out after agrees. record {
      found = found_rules rules table e.read.files files left _ e.read.agrees agrees;
      answers = λ m i a fits same untaken built.
          is_read_at table m rules read.text.items read.rules a
          (ap (λ (f : Files). f rules) (same refl) ∙ e.read.due.0) e.read.due.1 built;
      costs = λ m i a fits same untaken built costs.
          let due : rules_held (m rules) ≡ Ok read.rules = ap (λ (f : Files). rules_held (f rules))
          (same refl) ∙ ap rules_held e.read.due.0 ∙ ap or_fault e.read.due.1 in record {
            steps = (let a = costs.steps in omega (arith, a, ap steps_by due));
            calls = (let a = subst
                (λ (f : Files). g.S.Store.calls c.read_rules_text.new.store ≤ g.S.Store.calls
                c.args.store.now + (1 + reads_of (f rules))) (sym (same refl)) e.read.calls in
                let b = costs.calls in omega (arith, a, b, ap calls_by due));
            asked = (let a = subst
                (λ (f : Files). g.S.Store.asked c.read_rules_text.new.store ≤ g.S.Store.asked
                c.args.store.now + asked_of (f rules)) (sym (same refl)) e.read.asked in
                let b = costs.asked in omega (arith, a, b));
          };
    })
    c.build_by.ensures))
