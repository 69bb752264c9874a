use Rattle.std.proofs.Common.{◌∙◌, sym, ap, Some, List, ℕ}
use Rattle.std.specs.Str.{bytes_eq}
use Rattle.frz_store.specs.Files.{no_files}
use Rattle.frz_store.specs.Shelf.{stacked}
use Rattle.frz_store.specs.declared.named_file.NamedFile.{NamedFile}
use Rattle.frz_store.proofs.ShelfFiles.{open_here, open_else}
use Rattle.frz_store.proofs.shelf.Shelf.file.Goals as goal

pub returns-then-eq : goal.returns-then-eq
returns-then-eq c =
    ap Some c.deref.ensures.value
    ∙ sym (open_here _ c.args.self.now.newest c.in-Some.file c.args.name.now c.in-Some.is
    (ap (λ (x : List ℕ). bytes_eq x c.args.name.now) (sym c.as_str.ensures.value)
    ∙ sym c.if-eq.ensures))

pub returns-else-eq : goal.returns-else-eq
returns-else-eq c =
    c.find.ensures ∙ ap (λ (x : List NamedFile). stacked no_files x c.args.name.now)
    c.deref-else-eq.ensures.value
    ∙ sym (open_else _ c.args.self.now.newest c.in-Some.file c.args.name.now c.in-Some.is
    (ap (λ (x : List ℕ). bytes_eq x c.args.name.now) (sym c.as_str.ensures.value)
    ∙ sym c.if-eq.ensures))
