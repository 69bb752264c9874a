use Rattle.std.proofs.Common.{◌≡◌, length, map, take}
use Rattle.std.specs.String.{string_bytes}
use Rattle.frz_store.specs.Told.{store_of, StoreFine, StoreQuiet}
use Rattle.frz_atlas.proofs.LoadedAll.{Opens}
use Rattle.frz_atlas.proofs.Several.{AllFound}
use Rattle.frz_atlas.proofs.loading.load_behind.Given as goal

abbrev pub invariant-loop-place : goal.invariant-loop-place
invariant-loop-place g l = record {
  many : length l.backs.items ≡ l.place;
  loaded : AllFound Opens (map string_bytes (take l.place l.names)) l.backs.items
      (store_of g.S.Store l.fn.store) (store_of g.S.Store l.store) 0 0;
  quiet : StoreQuiet (store_of g.S.Store l.fn.store) (store_of g.S.Store l.store);
  fine : StoreFine (store_of g.S.Store l.fn.store) (store_of g.S.Store l.store);
}
