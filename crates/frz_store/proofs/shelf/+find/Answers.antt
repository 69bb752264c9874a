use Rattle.std.proofs.Common.{◌∙◌, sym, ap, Some, List, ℕ}
use Rattle.std.specs.Str.{bytes_eq}
use Rattle.frz_store.specs.Files.{no_files}
use Rattle.frz_store.proofs.ShelfFiles.{last_here, last_else}
use Rattle.frz_store.proofs.shelf.+find.Goals as goal

pub returns-then-eq : goal.returns-then-eq
returns-then-eq t c =
    ap Some c.deref.ensures.value
    ∙ sym (last_here no_files _ _ c.args.name.now c.in-len1-up.len_at_least c.file-item.is
    (ap (λ (x : List ℕ). bytes_eq x c.args.name.now) (sym c.as_str.ensures.value)
    ∙ sym c.if-eq.ensures))

pub returns-else-eq : goal.returns-else-eq
returns-else-eq t c =
    c.find.ensures
    ∙ sym (last_else no_files _ _ c.args.name.now c.in-len1-up.len_at_least c.file-item.is
    (ap (λ (x : List ℕ). bytes_eq x c.args.name.now) (sym c.as_str.ensures.value)
    ∙ sym c.if-eq.ensures))
