use Rattle.std.proofs.Common.{ap, ◌∙◌, List, ℕ}
use Rattle.frz_store.specs.Files.{no_files, put}
use Rattle.frz_store.specs.Shelf.{stacked}
use Rattle.frz_store.proofs.ShelfFiles.{stacked-push}
use Rattle.frz_store.proofs.shelf.add.Goals as goal

pub returns-clause-ok : goal.returns-clause-ok
returns-clause-ok c =
    ap (stacked no_files) c.in_ok-push.ensures.items ∙ stacked-push no_files c.args.rest.now.items _
    ∙ ap (λ (n : List ℕ). put (stacked no_files c.args.rest.now.items) n c.args.bytes.items)
    c.in_ok-name.ensures.ok
