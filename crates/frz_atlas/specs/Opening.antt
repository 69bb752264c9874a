-- What is found under the names of tables that stand behind another.
use Rattle.std.specs.Prelude.{◌≡◌, ◌≤◌, ◌+◌, ℕ, List, [], length, map, Option, Some, Ok, ⊤}
use Rattle.frz_store.specs.Files.{Files}
use Rattle.frz_store.specs.Told.{StoreTold}
use Rattle.frz_table.specs.declared.fault.TableFault.{TableFault}
use Rattle.frz_table.specs.declared.kind.FileKind.{FileKind}
use Rattle.frz_table.specs.Layout.{kind_by}
use Rattle.frz_table.specs.Numbers.{AreBytes}
use Rattle.frz_table.specs.Opening.{Contents, Refuses, opened, own_format}
use Rattle.frz_table.specs.Possible.{MayHold, held_text}
use Rattle.frz_table.specs.Tables.{Table}
use Rattle.frz_check.specs.declared.verdict.Verdict.TheVariants.{Exact}
use Rattle.frz_backs.specs.Books.{Back, back_with}
use Rattle.frz_backs.specs.BackTable.{BackTable}
use Rattle.frz_backs.specs.Links.{Link}
use Rattle.frz_backs.specs.Loaded.{leans_as, link_loaded}
use Rattle.frz_atlas.specs.Behind.{AreJudged, HasWrongOver, IsJudgedOver, IsRefusedAt, TableBytes, link_of}
use Rattle.frz_atlas.specs.Costs.{WithinAll, WithinOne}
use Rattle.frz_atlas.specs.Held.{MayHoldAll, all_held}
use Rattle.frz_atlas.specs.declared.fault.AtlasFault.{AtlasFault}
use Rattle.frz_atlas.specs.declared.fault.AtlasFault.TheVariants as atlas
use Rattle.frz_atlas.specs.declared.fault.BackFault.{BackFault}
use Rattle.frz_atlas.specs.declared.fault.BackFault.TheVariants as one

-- the kind is one of the two as which files are opened here, Atlas and Plain
abbrev pub IsOwnKind : FileKind → Type 0
IsOwnKind kind = kind ≡ kind_by (leans_as kind)

-- the name may hold bytes that open, as their own kind, with these contents
pub record MayOpenOwn (files : Option Files) (name : List ℕ) (contents : Contents) : Type 0 where
  pub bytes : List ℕ
  pub may : MayHold files name (Some bytes)
  pub opens : opened own_format (Some bytes) ≡ Ok contents

-- the name may hold what is refused for this reason as its own kind, and no more bytes were asked
-- for than it takes to open it
pub record MayRefuseOwn (name : List ℕ) (old new : StoreTold) (fault : TableFault) : Type 0 where
  pub held : Option (List ℕ)
  pub may : MayHold old.files name held
  pub refuses : Refuses (opened own_format held) fault
  pub asked : new.asked ≤ old.asked + (24 + length (held_text held))

-- the open table with these codes, with its rules and whether it leans on those before it
abbrev pub link_with : Table → (white black : List ℕ) → Link
link_with table white black = record {
  rules = table.rules;
  leans = leans_as table.kind;
  back = back_with table.rules white black;
}

-- the name may hold a table that is exact over those before it, and this is that table, with its
-- text and its rules, and whether it leans on those before it
pub record OpensOver (before : List Back) (name : List ℕ) (given : BackTable) (old new : StoreTold)
    (steps_before steps_now : ℕ) : Type 0 where
  pub table : TableBytes
  pub may : MayHold old.files name (Some table.bytes)
  pub are_bytes : AreBytes table.bytes
  pub judged : IsJudgedOver before table Exact
  pub keeps : link_loaded given ≡ link_of table
  pub text : given.table.text ≡ table.contents.text
  pub within : WithinOne (Some table.bytes) old new steps_before steps_now

-- what the name holds is refused for this reason; nothing is said where the store failed or memory
-- ran out
abbrev pub MayBeRefused : List Back → Option (List ℕ) → BackFault → Type 0
MayBeRefused before held (one.Refused fault) =
    Refuses (opened own_format held) fault
MayBeRefused before held (one.Wrong wrong) = HasWrongOver before held wrong

pub record RefusesOver (before : List Back) (name : List ℕ) (old new : StoreTold)
    (steps_before steps_now : ℕ) (fault : BackFault) : Type 0 where
  pub held : Option (List ℕ)
  pub may : MayHold old.files name held
  pub refuses : MayBeRefused before held fault
  pub within : WithinOne held old new steps_before steps_now

-- the names may hold tables that are exact, each over those before it, and these are those tables,
-- with their texts and their rules, and whether they lean on those before them
pub record OpensAll (names : List (List ℕ)) (backs : List BackTable) (old new : StoreTold)
    (steps_before steps_now : ℕ) : Type 0 where
  pub tables : List TableBytes
  pub may : MayHoldAll old.files names (all_held tables)
  pub exact : AreJudged tables
  pub keeps : map link_loaded backs ≡ map link_of tables
  pub texts : map (λ back. back.table.text) backs ≡ map (λ t. t.contents.text) tables
  pub within : WithinAll (all_held tables) old new steps_before steps_now

-- what one of the names holds is refused for this reason, and those before it hold exact tables;
-- nothing is said where the store failed or memory ran out
abbrev pub IsOneRefused : List (Option (List ℕ)) → AtlasFault → Type 0
IsOneRefused helds (atlas.Back place fault) = IsRefusedAt [] helds place fault
IsOneRefused helds atlas.Failed = ⊤
IsOneRefused helds atlas.NoMemory = ⊤
IsOneRefused helds (atlas.Rules fault) = ⊥
IsOneRefused helds (atlas.Table fault) = ⊥

pub record RefusesAll (names : List (List ℕ)) (old new : StoreTold)
    (steps_before steps_now : ℕ) (fault : AtlasFault) : Type 0 where
  pub helds : List (Option (List ℕ))
  pub may : MayHoldAll old.files names helds
  pub refuses : IsOneRefused helds fault
  pub within : WithinAll helds old new steps_before steps_now
