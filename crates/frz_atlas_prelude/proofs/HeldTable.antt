-- Files that hold at once what the names of a table and of those behind it may hold.
use Rattle.std.proofs.Common.{◌≡◌, ℕ, List, ◌∷◌, Option, false}
use Rattle.std.specs.Prelude.{map}
use Rattle.frz_store.specs.Files.{Files}
use Rattle.frz_atlas.specs.Held.{MayHoldAll}
use Rattle.frz_table.specs.Possible.{MayHold}
use Rattle.frz_atlas_prelude.specs.Names.{has_twice}
use Rattle.frz_atlas_prelude.proofs.HeldNames.{HoldingAll, holding_all, may_hold_first, same_first, same_rest}

pub record Holds (told : Option Files) (table : List ℕ) (behind : List (List ℕ))
    (held : Option (List ℕ)) (helds : List (Option (List ℕ))) : Type 0 where
  pub all : HoldingAll told (table ∷ behind) (held ∷ helds)
  pub here : all.files table ≡ held
  pub others : map all.files behind ≡ helds

-- there are such files where no two names are the same
pub apart_names_hold : (told : Option Files) (table : List ℕ) (behind : List (List ℕ))
    → has_twice (table ∷ behind) ≡ false → (held : Option (List ℕ))
    (helds : List (Option (List ℕ))) → MayHold told table held → MayHoldAll told behind helds
    → Holds told table behind held helds
apart_names_hold told table behind apart held helds may may_all =
    let all = holding_all told (table ∷ behind) (held ∷ helds) apart
    (may_hold_first told table held behind helds may may_all) in
    record {
      all = all;
      here = same_first (all.files table) held (map all.files behind) helds all.hold;
      others = same_rest (all.files table) held (map all.files behind) helds all.hold;
    }
