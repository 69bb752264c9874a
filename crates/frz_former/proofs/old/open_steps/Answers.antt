use Rattle.std.proofs.Common.{◌≡◌, ap, ℕ, List, Some}
use Rattle.std.proofs.lemmas.Result.{err_from_is_err_and}
use Rattle.frz_table.specs.Layout.{due_front}
use Rattle.frz_table.specs.Opening.{front_of}
use Rattle.frz_former.specs.OldFiles.{old_format, old_magic}
use Rattle.frz_former.proofs.FormerFiles.{old_read, old_refused}
use Rattle.frz_table.proofs.Lemmas.{no_name, no_text, not_ruled, opens, other_size}
use Rattle.frz_former.proofs.old.open_steps.Goals as goal

due : {magic : List ℕ} → magic ≡ old_magic → due_front (Some magic) ≡ front_of old_format
due e = ap (λ (l : List ℕ). due_front (Some l)) e

pub returns-in_err-opened-clause-run : goal.returns-in_err-opened-clause-run
returns-in_err-opened-clause-run g c =
    let p = err_from_is_err_and c.from_residual.result c.from_residual.ensures.1 in
    rw (p.1, p.2) (no_text old_format _ _ c.in_err-opened.field-0.0 _ _ (due c.magic.ensures)
    c.in_err-opened.ensures.run)

pub returns-in-Err-clause-run : goal.returns-in-Err-clause-run
returns-in-Err-clause-run g c =
    not_ruled old_format _ _ _ _ _ (due c.magic.ensures)
    c.in_ok-opened.ensures.run c.in-Err.fault
    (old_refused _ c.in_ok-opened.opened.rules c.in-Err.fault
    c.in_ok-opened.ensures.read.read c.in-Err.ensures.refused)

pub returns-in_err-check_size-clause-run : goal.returns-in_err-check_size-clause-run
returns-in_err-check_size-clause-run g c =
    let p = err_from_is_err_and c.from_residual-in_err-check_size.result
    c.from_residual-in_err-check_size.ensures.1 in
    rw (p.1, p.2) (other_size old_format _ _ _ _ _ (due c.magic.ensures)
    c.in_ok-opened.ensures.run c.in_ok-opened.opened.rules
    (old_read _ _ c.in-Ok.size c.in_ok-opened.ensures.read.read c.in-Ok.ensures.size
    c.in-Ok.ensures.few)
    c.in-Ok.size c.in-Ok.ensures.size _ c.in_err-check_size.field-0.0 c.in_err-check_size.ensures.run)

pub returns-in_err-name-clause-run : goal.returns-in_err-name-clause-run
returns-in_err-name-clause-run g c =
    let p = err_from_is_err_and c.from_residual-in_err-name.result
    c.from_residual-in_err-name.ensures.1 in
    rw (p.1, p.2) (no_name old_format _ _ _ _ _ (due c.magic.ensures)
    c.in_ok-opened.ensures.run c.in_ok-opened.opened.rules
    (old_read _ _ c.in-Ok.size c.in_ok-opened.ensures.read.read c.in-Ok.ensures.size
    c.in-Ok.ensures.few)
    c.in-Ok.size c.in-Ok.ensures.size _ c.in_ok-check_size.ensures.run)

pub returns-clause-run : goal.returns-clause-run
returns-clause-run g c =
    opens old_format _ _ _ _ _ (due c.magic.ensures)
    c.in_ok-opened.ensures.run c.in_ok-opened.opened.rules
    (old_read _ _ c.in-Ok.size c.in_ok-opened.ensures.read.read c.in-Ok.ensures.size
    c.in-Ok.ensures.few)
    c.in-Ok.size c.in-Ok.ensures.size _ c.in_ok-check_size.ensures.run
