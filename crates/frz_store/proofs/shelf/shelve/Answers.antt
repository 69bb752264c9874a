use Rattle.std.proofs.Common.{ap, ◌∙◌}
use Rattle.frz_store.specs.Files.{no_files}
use Rattle.frz_store.specs.Shelf.{stacked}
use Rattle.frz_store.proofs.ShelfFiles.{stacked-push}
use Rattle.frz_store.proofs.shelf.shelve.Goals as goal

pub returns : goal.returns
returns c =
    ap (stacked no_files) c.in-Ok.ensures.items ∙ stacked-push no_files c.args.rest.now.items _
