use Rattle.std.proofs.Common.{sym, ◌∙◌, ℕ, List}
use Rattle.std.proofs.lemmas.Result.{err_from_is_err_and}
use Rattle.std.specs.Str.{bytes_eq}
use Rattle.frz_answer.specs.Jobs.{Job}
use Rattle.frz_answer.specs.Words.{unless}
use Rattle.frz_prelude.proofs.Lemmas.{differ, not_taken, same_name, taken}
use Rattle.frz_commands_table.specs.MigrateMeans.{migrating_at}
use Rattle.frz_commands_table.proofs.migrating.migrate.Goals as goal

abbrev by_names : List ℕ × List ℕ → Job
by_names names = unless (bytes_eq names.0 names.1) (migrating_at names.0 names.1)

pub returns-in_err-old-clause-replies : goal.returns-in_err-old-clause-replies
returns-in_err-old-clause-replies g c = λ steps.
    let p = err_from_is_err_and c.from_residual.result c.from_residual.ensures.1 in
    rw (p.1, p.2) (not_taken by_names _ c.in_err-old.ensures)

pub returns-then-eq-clause-replies : goal.returns-then-eq-clause-replies
returns-then-eq-clause-replies g c = λ steps.
    taken by_names _ c.in_ok-old.ensures
    (same_name (migrating_at c.in_ok-old.old.now c.in_ok-old.new.now) _
    (sym c.eq.ensures ∙ c.if-eq.true))

pub returns-clause-replies : goal.returns-clause-replies
returns-clause-replies g c = λ steps.
    taken by_names _ c.in_ok-old.ensures
    (differ (migrating_at c.in_ok-old.old.now c.in_ok-old.new.now) _
    (sym c.eq.ensures ∙ c.if-eq.false)
    (c.migrate_at.ensures steps))
