-- Tables that are opened and loaded behind another, and not checked.
use Rattle.std.specs.Prelude.{◌≡◌, ◌≤◌, ◌+◌, ℕ, suc, List, [], ◌∷◌, map, sum_by, Option, Some, Result, Ok, Err, ⊤}
use Rattle.std.specs.Option.{unwrap_or}
use Rattle.frz_store.specs.Told.{StoreTold}
use Rattle.frz_table.specs.declared.fault.TableFault.{TableFault}
use Rattle.frz_table.specs.Numbers.{AreBytes}
use Rattle.frz_table.specs.Opening.{Contents, Refuses, contents_of, opened, own_format}
use Rattle.frz_table.specs.Possible.{MayHold}
use Rattle.frz_backs.specs.BackTable.{BackTable}
use Rattle.frz_backs.specs.Links.{Link}
use Rattle.frz_backs.specs.Loaded.{link_loaded}
use Rattle.frz_atlas.specs.Behind.{TableBytes, link_of}
use Rattle.frz_atlas.specs.Costs.{bytes_of, calls_of}
use Rattle.frz_atlas.specs.Held.{MayHoldAll, all_held}
use Rattle.frz_atlas.specs.declared.fault.AtlasFault.{AtlasFault}
use Rattle.frz_atlas.specs.declared.fault.AtlasFault.TheVariants.{Rules, Table, Back, Failed, NoMemory}
use Rattle.frz_atlas.specs.declared.fault.BackFault.TheVariants.{Refused, Wrong}

-- what is held, opened as its own kind
abbrev pub opened_own : Option (List ℕ) → Result Contents TableFault
opened_own held = opened own_format held

-- a table before those of the other files; a file that is refused there has one more before it
abbrev pub in_front : TableBytes → Result (List TableBytes) (ℕ × TableFault)
    → Result (List TableBytes) (ℕ × TableFault)
in_front table (Ok tables) = Ok (table ∷ tables)
in_front table (Err refused) = Err (suc refused.0, refused.1)

abbrev pub opened_before : Option (List ℕ) → Result Contents TableFault
    → Result (List TableBytes) (ℕ × TableFault) → Result (List TableBytes) (ℕ × TableFault)
opened_before held (Err fault) others = Err (0, fault)
opened_before held (Ok contents) others =
    in_front (record { bytes = unwrap_or held []; contents = contents }) others

-- all of these, each opened as its own kind, or the place of the first that is refused, from 0, and
-- why
unfoldable pub opened_all : List (Option (List ℕ)) → Result (List TableBytes) (ℕ × TableFault)
opened_all [] = Ok []
opened_all (held ∷ more) = opened_before held (opened_own held) (opened_all more)

-- no more bytes and calls are asked of the store than opening and loading one file costs
pub record WithinLoadingOne (held : Option (List ℕ)) (old new : StoreTold) : Type 0 where
  pub asked : new.asked ≤ old.asked + bytes_of held
  pub calls : new.calls ≤ old.calls + calls_of held

-- and for all of the files
pub record WithinLoading (helds : List (Option (List ℕ))) (old new : StoreTold) : Type 0 where
  pub asked : new.asked ≤ old.asked + sum_by bytes_of helds
  pub calls : new.calls ≤ old.calls + sum_by calls_of helds

-- the name may hold bytes that open as their own kind, and this is the table in them, with its
-- codes and its rules, and whether it leans on others
pub record LoadsOne (name : List ℕ) (old new : StoreTold) (given : BackTable) : Type 0 where
  pub bytes : List ℕ
  pub may : MayHold old.files name (Some bytes)
  pub are_bytes : AreBytes bytes
  pub opens : opened_own (Some bytes) ≡ Ok (contents_of given.table)
  pub keeps : link_loaded given
      ≡ link_of (record { bytes = bytes; contents = contents_of given.table })
  pub within : WithinLoadingOne (Some bytes) old new

-- the name may hold what is refused for this reason as its own kind; nothing is said where the
-- store failed or memory ran out
pub record RefusesOne (name : List ℕ) (old new : StoreTold) (fault : TableFault) : Type 0 where
  pub held : Option (List ℕ)
  pub may : MayHold old.files name held
  pub refuses : Refuses (opened_own held) fault
  pub within : WithinLoadingOne held old new

-- the names may hold files that open, and these are the tables in them, with their codes and their
-- rules, and whether they lean on those before them
pub record LoadsAll (names : List (List ℕ)) (links : List Link) (old new : StoreTold)
    : Type 0 where
  pub tables : List TableBytes
  pub may : MayHoldAll old.files names (all_held tables)
  pub opens : opened_all (all_held tables) ≡ Ok tables
  pub keeps : links ≡ map link_of tables
  pub within : WithinLoading (all_held tables) old new

-- the first of these that is refused is so for this reason; nothing is said where the store failed
-- or memory ran out
abbrev pub IsOneUnopened : List (Option (List ℕ)) → AtlasFault → Type 0
IsOneUnopened helds (Back place (Refused fault)) = opened_all helds ≡ Err (place, fault)
IsOneUnopened helds (Back place (Wrong wrong)) = ⊥
IsOneUnopened helds Failed = ⊤
IsOneUnopened helds NoMemory = ⊤
IsOneUnopened helds (Rules fault) = ⊥
IsOneUnopened helds (Table fault) = ⊥

pub record RefusesToLoad (names : List (List ℕ)) (old new : StoreTold)
    (fault : AtlasFault) : Type 0 where
  pub helds : List (Option (List ℕ))
  pub may : MayHoldAll old.files names helds
  pub refuses : IsOneUnopened helds fault
  pub within : WithinLoading helds old new
