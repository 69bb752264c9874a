-- What is said of a table and of those behind it, by what the names may hold.
use Rattle.std.specs.Prelude.{◌≡◌, ◌≤◌, ◌+◌, ◌*◌, ℕ, List, [], length, map, sum_by, Option, Some, Ok, Err, ⊤}
use Rattle.frz_sets.specs.Sets.{size_of}
use Rattle.frz_store.specs.Told.{StoreTold}
use Rattle.frz_table.specs.Layout.{pieces_of}
use Rattle.frz_table.specs.Opening.{Contents, opened, opening_calls, own_format}
use Rattle.frz_table.specs.Possible.{MayHold, held_text}
use Rattle.frz_check.specs.Kept.{IsVerdictOn}
use Rattle.frz_backs.specs.Links.{value_over}
use Rattle.frz_atlas.specs.Behind.{AreJudged, IsRefusedAt, TableBytes, backs_in, kind_of, leans}
use Rattle.frz_atlas.specs.Costs.{bytes_of, calls_of, size_held, steps_of}
use Rattle.frz_atlas.specs.Held.{MayHoldAll, all_held}
use Rattle.frz_atlas.specs.declared.checking.Checked.{Checked}
use Rattle.frz_atlas.specs.declared.fault.AtlasFault.{AtlasFault}
use Rattle.frz_atlas.specs.declared.fault.AtlasFault.TheVariants.{Rules, Table, Back, Failed, NoMemory}

-- the size of each table: how many numbers it has
abbrev pub sizes_in : List TableBytes → List ℕ
sizes_in tables = map (λ t. size_of t.contents.rules.groups) tables

-- no more is spent than checking the table and all tables behind it costs
pub record WithinChecking (held : Option (List ℕ)) (behind : List (Option (List ℕ)))
    (old new : StoreTold) (steps_before steps_now : ℕ) : Type 0 where
  pub steps : steps_now ≤ steps_before + (size_held held + sum_by steps_of behind)
  pub asked : new.asked ≤
      old.asked + (16 + length (held_text held) + 8 * size_held held + sum_by bytes_of behind)
  pub calls : new.calls ≤
      old.calls + (opening_calls own_format held + 2 * pieces_of (size_held held)
      + sum_by calls_of behind)

-- what the names may hold: the tables behind are exact, each over those before it, and this is the
-- verdict on the table, over all of them where it leans on them
pub record ChecksAtlas (table : List ℕ) (behind : List (List ℕ)) (old new : StoreTold)
    (steps_before steps_now : ℕ) (checked : Checked) : Type 0 where
  pub bytes : List ℕ
  pub may : MayHold old.files table (Some bytes)
  pub contents : Contents
  pub opens : opened own_format (Some bytes) ≡ Ok contents
  pub tables : List TableBytes
  pub may_all : MayHoldAll old.files behind (all_held tables)
  pub exact : AreJudged tables
  pub told : IsVerdictOn (kind_of bytes) (value_over (leans bytes) contents.rules (backs_in tables))
      contents bytes checked.verdict
  pub size : checked.size ≡ size_of contents.rules.groups
  pub sizes : checked.behind.items ≡ sizes_in tables
  pub within : WithinChecking (Some bytes) (all_held tables) old new steps_before steps_now

-- the file opens as its own kind
abbrev pub OpensOwn : Option (List ℕ) → Type 0
OpensOwn held = (contents : Contents) × (opened own_format held ≡ Ok contents)

-- the table's file is refused for this reason, or it opens and one of those behind it is refused
abbrev pub IsRefusedAtlas : Option (List ℕ) → List (Option (List ℕ)) → AtlasFault → Type 0
IsRefusedAtlas held behind (Table fault) = opened own_format held ≡ Err fault
IsRefusedAtlas held behind (Back place fault) =
    OpensOwn held × IsRefusedAt [] behind place fault
IsRefusedAtlas held behind Failed = ⊤
IsRefusedAtlas held behind NoMemory = ⊤
IsRefusedAtlas held behind (Rules fault) = ⊥

-- the names may hold what is refused for this reason
pub record RefusesAtlas (table : List ℕ) (behind : List (List ℕ)) (old new : StoreTold)
    (steps_before steps_now : ℕ) (fault : AtlasFault) : Type 0 where
  pub held : Option (List ℕ)
  pub may : MayHold old.files table held
  pub helds : List (Option (List ℕ))
  pub may_all : MayHoldAll old.files behind helds
  pub refuses : IsRefusedAtlas held helds fault
  pub within : WithinChecking held helds old new steps_before steps_now
