-- A table over several others, loaded with all of them, and not checked.
use Rattle.std.specs.Prelude.{◌≡◌, ◌≤◌, ◌+◌, ◌*◌, ℕ, List, length, map, sum_by, Option, Some, Result, Ok, Err, ⊤}
use Rattle.frz_store.specs.Told.{StoreTold}
use Rattle.frz_table.specs.declared.fault.TableFault.{TableFault}
use Rattle.frz_table.specs.Layout.{pieces_of}
use Rattle.frz_table.specs.Opening.{Contents, contents_of, opened, opening_calls, own_format}
use Rattle.frz_table.specs.Possible.{MayHold, held_text}
use Rattle.frz_backs.specs.Loaded.{link_loaded}
use Rattle.frz_atlas.specs.Behind.{TableBytes, link_of}
use Rattle.frz_atlas.specs.Costs.{bytes_of, calls_of, size_held}
use Rattle.frz_atlas.specs.Held.{MayHoldAll, all_held}
use Rattle.frz_atlas.specs.Loading.{opened_all, opened_own}
use Rattle.frz_atlas.specs.declared.fault.AtlasFault.{AtlasFault}
use Rattle.frz_atlas.specs.declared.fault.AtlasFault.TheVariants.{Rules, Table, Back, Failed, NoMemory}
use Rattle.frz_atlas.specs.declared.fault.BackFault.TheVariants.{Refused, Wrong}
use Rattle.frz_atlas.specs.declared.reading.LoadedAtlas.{LoadedAtlas}

-- no more is asked of the store than opening and loading the table and all tables behind it costs
pub record WithinReading (held : Option (List ℕ)) (behind : List (Option (List ℕ)))
    (old new : StoreTold) : Type 0 where
  pub asked : new.asked ≤
      old.asked + (16 + length (held_text held) + 8 * size_held held + sum_by bytes_of behind)
  pub calls : new.calls ≤
      old.calls + (opening_calls own_format held + 2 * pieces_of (size_held held)
      + sum_by calls_of behind)

-- the name may hold a table, the names behind may hold tables, and these are they, with their codes
-- and their rules, and whether they lean on others
pub record LoadsAtlas (table : List ℕ) (behind : List (List ℕ)) (old new : StoreTold)
    (loaded : LoadedAtlas) : Type 0 where
  pub bytes : List ℕ
  pub may : MayHold old.files table (Some bytes)
  pub opens : opened own_format (Some bytes) ≡ Ok (contents_of loaded.table.table)
  pub keeps : link_loaded loaded.table
      ≡ link_of (record { bytes = bytes; contents = contents_of loaded.table.table })
  pub tables : List TableBytes
  pub may_all : MayHoldAll old.files behind (all_held tables)
  pub all_open : opened_all (all_held tables) ≡ Ok tables
  pub all_keep : map link_loaded loaded.backs.items ≡ map link_of tables
  pub within : WithinReading (Some bytes) (all_held tables) old new

-- the table's file, opened in this way, is refused for this reason, or it opens and the first of
-- those behind it that is refused is so; nothing is said where the store failed or memory ran out
abbrev pub IsUnopened : (Option (List ℕ) → Result Contents TableFault) → Option (List ℕ)
    → List (Option (List ℕ)) → AtlasFault → Type 0
IsUnopened opened_as held behind (Table fault) = opened_as held ≡ Err fault
IsUnopened opened_as held behind (Back place (Refused fault)) =
    ((contents : Contents) × (opened_as held ≡ Ok contents)) × (opened_all behind ≡ Err (place, fault))
IsUnopened opened_as held behind (Back place (Wrong wrong)) = ⊥
IsUnopened opened_as held behind Failed = ⊤
IsUnopened opened_as held behind NoMemory = ⊤
IsUnopened opened_as held behind (Rules fault) = ⊥

-- the names may hold what is refused for this reason
pub record RefusesToRead (table : List ℕ) (behind : List (List ℕ)) (old new : StoreTold)
    (fault : AtlasFault) : Type 0 where
  pub held : Option (List ℕ)
  pub may : MayHold old.files table held
  pub helds : List (Option (List ℕ))
  pub may_all : MayHoldAll old.files behind helds
  pub refuses : IsUnopened opened_own held helds fault
  pub within : WithinReading held helds old new
