use Rattle.std.proofs.Common.{◌≡◌, map, take}
use Rattle.frz_sets.specs.Sets.{size_of}
use Rattle.frz_backs.specs.BackTable.{BackTable}
use Rattle.frz_atlas.proofs.checking.sizes_of.Given as goal

-- the sizes of the tables before this one
abbrev pub invariant-loop-back : goal.invariant-loop-back
invariant-loop-back l =
    l.sizes.items
    ≡ map (λ (back : BackTable). size_of back.table.rules.groups) (take l.back-index l.backs)
