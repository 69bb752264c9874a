use Rattle.std.proofs.Common.{◌≡◌, fold, take}
use Rattle.frz_store.specs.Fails.{new_plan}
use Rattle.frz_store.specs.Files.{no_files, put}
use Rattle.frz_store.specs.MemStore.{files, plan, room}
use Rattle.test_tables.proofs.stores.store_with.Given as goal

abbrev pub invariant-loop-name : goal.invariant-loop-name
invariant-loop-name l =
    (files l.store ≡ fold (λ held file. put held file.0.now file.1.now) no_files
    (take l.name-index l.files))
    × (room l.store ≡ 0)
    × (plan l.store ≡ new_plan l.fn.fails.items)
