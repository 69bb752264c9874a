use Rattle.std.proofs.Common.{ap, ◌∙◌}
use Rattle.std.proofs.lemmas.Result.{err_from_is_err_and}
use Rattle.frz_sets.specs.Sets.{size_of}
use Rattle.frz_table.specs.Layout.{due_front}
use Rattle.frz_table.specs.Opening.{format_for}
use Rattle.frz_table.proofs.OpeningRuns.{no_name, no_set, no_text, opens, other_size}
use Rattle.frz_table.proofs.opening.open_steps.Goals as goal

pub returns-in_err-opened-clause-run : goal.returns-in_err-opened-clause-run
returns-in_err-opened-clause-run g c =
    let p = err_from_is_err_and c.from_residual.result c.from_residual.ensures.1 in
    rw (p.1, p.2) (no_text (format_for c.args.kind) _ _ c.in_err-opened.field-0.0 _ _
    (ap due_front c.magic_for.ensures) c.in_err-opened.ensures.run)

pub returns-in_err-set-clause-run : goal.returns-in_err-set-clause-run
returns-in_err-set-clause-run g c =
    let p = err_from_is_err_and c.from_residual-in_err-set.result
    c.from_residual-in_err-set.ensures.1 in
    rw (p.1, p.2) (no_set (format_for c.args.kind) _ _ _ _ _ (ap due_front c.magic_for.ensures)
    c.in_ok-opened.ensures.run c.in_ok-opened.opened.rules c.in_ok-opened.ensures.read.read)

pub returns-in_err-check_size-clause-run : goal.returns-in_err-check_size-clause-run
returns-in_err-check_size-clause-run g c =
    let p = err_from_is_err_and c.from_residual-in_err-check_size.result
    c.from_residual-in_err-check_size.ensures.1 in
    rw (p.1, p.2) (other_size (format_for c.args.kind) _ _ _ _ _ (ap due_front c.magic_for.ensures)
    c.in_ok-opened.ensures.run c.in_ok-opened.opened.rules c.in_ok-opened.ensures.read.read
    c.size.result (c.size.ensures.size ∙ ap size_of c.in_ok-set.ensures) _
    c.in_err-check_size.field-0.0 c.in_err-check_size.ensures.run)

pub returns-in_err-name-clause-run : goal.returns-in_err-name-clause-run
returns-in_err-name-clause-run g c =
    let p = err_from_is_err_and c.from_residual-in_err-name.result
    c.from_residual-in_err-name.ensures.1 in
    rw (p.1, p.2) (no_name (format_for c.args.kind) _ _ _ _ _ (ap due_front c.magic_for.ensures)
    c.in_ok-opened.ensures.run c.in_ok-opened.opened.rules c.in_ok-opened.ensures.read.read
    c.size.result (c.size.ensures.size ∙ ap size_of c.in_ok-set.ensures) _
    c.in_ok-check_size.ensures.run)

pub returns-clause-run : goal.returns-clause-run
returns-clause-run g c =
    opens (format_for c.args.kind) _ _ _ _ _ (ap due_front c.magic_for.ensures)
    c.in_ok-opened.ensures.run c.in_ok-opened.opened.rules c.in_ok-opened.ensures.read.read
    c.size.result (c.size.ensures.size ∙ ap size_of c.in_ok-set.ensures) _
    c.in_ok-check_size.ensures.run

pub returns-clause-kind : goal.returns-clause-kind
returns-clause-kind g c =
    record { front = c.in_ok-opened.opened.magic; begins = c.in_ok-opened.ensures.begins; is = c.of.ensures }
