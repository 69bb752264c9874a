-- What a name may hold, by what the store tells.
use Rattle.std.specs.Prelude.{◌≡◌, ℕ, ◌+◌, ◌≤◌, List, [], length, Option, None, Some, Ok, IfSome}
use Rattle.std.specs.Option.{unwrap_or}
use Rattle.frz_board.specs.declared.man.Colour.TheVariants.{White, Black}
use Rattle.frz_store.specs.Files.{Files}
use Rattle.frz_store.specs.Told.{StoreTold}
use Rattle.frz_table.specs.declared.fault.TableFault.{TableFault}
use Rattle.frz_table.specs.Layout.{codes_at, magic_of}
use Rattle.frz_table.specs.Numbers.{AreBytes}
use Rattle.frz_table.specs.Opening.{Format, Contents, Refuses, opened, opening_calls, kept_text}
use Rattle.frz_table.specs.Tables.{Table, IsTableFile, table_size}

-- what the name may hold: what the store tells that it holds, or, if the store does not tell, any
-- bytes or nothing
abbrev pub MayHold : Option Files → List ℕ → Option (List ℕ) → Type 0
MayHold None name held = IfSome held AreBytes
MayHold (Some m) name held = m name ≡ held

-- the text in the file, and no text if the file is not there
abbrev pub held_text : Option (List ℕ) → List ℕ
held_text held = kept_text (unwrap_or held [])

-- at most 16 bytes and those of the text in the file were asked for
abbrev pub AskedFor : Option (List ℕ) → (before now : ℕ) → Type 0
AskedFor held before now = now ≤ before + (16 + length (held_text held))

-- the name may hold bytes that open with these contents
pub record MayOpen (format : Format) (files : Option Files) (name : List ℕ)
    (contents : Contents) : Type 0 where
  pub bytes : List ℕ
  pub may : MayHold files name (Some bytes)
  pub opens : opened format (Some bytes) ≡ Ok contents

-- the name may hold what is refused with this fault, and no more bytes and calls were asked of the
-- store than opening it takes
pub record MayRefuse (format : Format) (name : List ℕ) (old new : StoreTold)
    (fault : TableFault) : Type 0 where
  pub held : Option (List ℕ)
  pub may : MayHold old.files name held
  pub refuses : Refuses (opened format held) fault
  pub asked : AskedFor held old.asked new.asked
  pub calls : new.calls ≤ old.calls + opening_calls format held

-- the name may hold a file of this magic, text and size with these codes
pub record MayKeepCodes (files : Option Files) (name magic text : List ℕ)
    (size : ℕ) (white black : List ℕ) : Type 0 where
  pub bytes : List ℕ
  pub may : MayHold files name (Some bytes)
  pub file : IsTableFile magic text size bytes
  pub white_is : codes_at White text size bytes ≡ white
  pub black_is : codes_at Black text size bytes ≡ black

-- the table's name may hold a file of the table with these codes
abbrev pub MayKeep : Option Files → Table → List ℕ → List ℕ → Type 0
MayKeep files table white black =
    MayKeepCodes files table.name (magic_of table.kind) table.text (table_size table) white black
