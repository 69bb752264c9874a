use Rattle.std.proofs.Common.{◌-◌, ◌≤◌, vec_len, vec_capacity}
use Rattle.frz_store.specs.Told.{store_of}
use Rattle.frz_table.proofs.Pieces.{IsLoading}
use Rattle.frz_table.proofs.lists.load_numbers.Given as goal

abbrev pub invariant-loop-buffer : goal.invariant-loop-buffer
invariant-loop-buffer g l = record {
  loading : IsLoading l.name l.at l.count (vec_len l.list) l.list.items
      (store_of g.S.Store l.initial.store) (store_of g.S.Store l.store);
  room : l.count ≤ vec_capacity l.list;
  within : vec_len l.list ≤ l.count;
}

abbrev pub decreases-loop-buffer : goal.decreases-loop-buffer
decreases-loop-buffer g l = l.count - vec_len l.list
