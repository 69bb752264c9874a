use Rattle.std.proofs.Common.{length}
use Rattle.frz_store.proofs.shelf.+find.Given as goal

abbrev pub decreases-find : goal.decreases-find
decreases-find l = length l.files.now
