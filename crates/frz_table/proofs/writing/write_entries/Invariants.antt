use Rattle.std.proofs.Common.{◌≡◌, length}
use Rattle.frz_store.specs.Told.{store_of}
use Rattle.frz_table.proofs.Appending.{IsWriting}
use Rattle.frz_table.proofs.writing.write_entries.Given as goal

abbrev pub invariant-loop-rest : goal.invariant-loop-rest
invariant-loop-rest g l =
    IsWriting (store_of g.S.Store l.initial.store) (store_of g.S.Store l.store) l.fn.codes l.rest
    × (length l.rest ≡ length l.fn.codes → l.store ≡ l.initial.store)

abbrev pub decreases-loop-rest : goal.decreases-loop-rest
decreases-loop-rest g l = length l.rest
