use Rattle.std.proofs.Common.{◌≡◌, ◌≤◌, ◌+◌, ◌*◌, length, map, take, IfSome}
use Rattle.frz_store.specs.Told.{store_of, StoreQuiet}
use Rattle.frz_graph.specs.EntryCodes.{arm_code}
use Rattle.frz_ways.specs.Costs.{arms_reads}
use Rattle.frz_ways.specs.Kept.{told_codes}
use Rattle.frz_ways.specs.Reads.{AreCodesFor}
use Rattle.frz_ways.proofs.reading.read_codes.Given as goal

abbrev pub invariant-loop-arm : goal.invariant-loop-arm
invariant-loop-arm g l = record {
  many : length l.codes.items ≡ l.arm-index;
  read : IfSome (told_codes l.table l.side (g.S.Store.files l.initial.store))
      (λ kept. l.codes.items ≡ map (arm_code l.side kept) (take l.arm-index l.arm-items));
  for : AreCodesFor l.side (take l.arm-index l.arm-items) l.codes.items;
  quiet : StoreQuiet (store_of g.S.Store l.initial.store) (store_of g.S.Store l.store);
  asked : g.S.Store.asked l.store ≤ g.S.Store.asked l.initial.store + 4 * arms_reads
      (take l.arm-index l.arm-items);
  calls : g.S.Store.calls l.store ≤ g.S.Store.calls l.initial.store + arms_reads
      (take l.arm-index l.arm-items);
  faults : g.S.Store.faults l.store ≡ g.S.Store.faults l.initial.store;
  wants : g.S.Store.wants l.store ≡ g.S.Store.wants l.initial.store;
}
