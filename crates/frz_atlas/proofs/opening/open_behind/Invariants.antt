use Rattle.std.proofs.Common.{◌≡◌, ◌≤◌, length, map, take}
use Rattle.std.specs.String.{string_bytes}
use Rattle.frz_store.specs.Told.{store_of, StoreFine, StoreQuiet}
use Rattle.frz_atlas.proofs.Behind.{IsJudged}
use Rattle.frz_atlas.proofs.Several.{AllFound}
use Rattle.frz_atlas.proofs.opening.open_behind.Given as goal

abbrev pub invariant-loop-place : goal.invariant-loop-place
invariant-loop-place g l = record {
  many : length l.backs.items ≡ l.place;
  opened : AllFound IsJudged (map string_bytes (take l.place l.names)) l.backs.items
      (store_of g.S.Store l.fn.store) (store_of g.S.Store l.store) l.fn.steps l.steps;
  quiet : StoreQuiet (store_of g.S.Store l.fn.store) (store_of g.S.Store l.store);
  fine : StoreFine (store_of g.S.Store l.fn.store) (store_of g.S.Store l.store);
  later : l.fn.steps ≤ l.steps;
}
