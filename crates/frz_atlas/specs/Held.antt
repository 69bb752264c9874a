-- What several names may hold, by what the store tells.
use Rattle.std.specs.Prelude.{ℕ, List, [], ◌∷◌, map, Option, Some, ⊤}
use Rattle.frz_store.specs.Files.{Files}
use Rattle.frz_table.specs.Possible.{MayHold}
use Rattle.frz_atlas.specs.Behind.{TableBytes}

-- the names may hold these, one by one and in this order
unfoldable pub MayHoldAll : Option Files → List (List ℕ) → List (Option (List ℕ)) → Type 0
MayHoldAll files [] [] = ⊤
MayHoldAll files (name ∷ names) (held ∷ more) = MayHold files name held × MayHoldAll files names more
MayHoldAll files [] (held ∷ more) = ⊥
MayHoldAll files (name ∷ names) [] = ⊥

abbrev pub all_held : List TableBytes → List (Option (List ℕ))
all_held tables = map (λ t. Some t.bytes) tables
