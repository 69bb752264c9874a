use Rattle.frz_store.proofs.ShelfFiles.{open_grown, open_same}
use Rattle.frz_store.proofs.shelf.Shelf.append.Goals as goal

pub returns-in-Some-clause-files : goal.returns-in-Some-clause-files
returns-in-Some-clause-files c =
    open_grown _ c.args.self.now.newest c.in-Some.file _ _ c.in-Some.is c.append.ensures.bytes

pub returns-in-Some-clause-empty : goal.returns-in-Some-clause-empty
returns-in-Some-clause-empty c =
    λ e. open_same _ c.args.self.now.newest c.in-Some.file _ _ c.in-Some.is c.append.ensures.bytes e
