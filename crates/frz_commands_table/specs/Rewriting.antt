-- The codes of a table of the former format, read and put in the order of today's numbers.
use Rattle.std.specs.Prelude.{◌≡◌, ℕ, ◌+◌, ◌*◌, ◌≤◌, List, length, Option, Some, Result, Ok, Err}
use Rattle.frz_board.specs.declared.man.Colour.TheVariants.{White, Black}
use Rattle.frz_index.specs.OldNumbers.{old_size_of}
use Rattle.frz_store.specs.Files.{Files}
use Rattle.frz_store.specs.Told.{StoreTold}
use Rattle.frz_table.specs.declared.fault.TableFault.{TableFault}
use Rattle.frz_table.specs.Layout.{pieces_of}
use Rattle.frz_former.specs.OldFiles.{IsOldFileOf, OldTable, old_contents_of, old_format}
use Rattle.frz_table.specs.Opening.{Contents, Refuses, opened, opening_calls}
use Rattle.frz_table.specs.Possible.{MayHold, held_text}
use Rattle.frz_commands_table.specs.Migrated.{AreMoved, former_codes}
use Rattle.frz_commands_table.specs.declared.moving.Moved.{Moved}

-- how many numbers a former table has that opens, and 0 where the file does not open
abbrev pub former_size : Result Contents TableFault → ℕ
former_size (Ok contents) = old_size_of contents.rules.groups
former_size (Err fault) = 0

-- no more bytes and calls are spent than it takes to open what is held and to load its codes
pub record WithinFormer (held : Option (List ℕ)) (old new : StoreTold) : Type 0 where
  pub asked : new.asked
      ≤ old.asked + (16 + length (held_text held) + 8 * former_size (opened old_format held))
  pub calls : new.calls ≤
      old.calls + (opening_calls old_format held + 2 * pieces_of
      (former_size (opened old_format held)))

-- the lists are the moved codes of a file that may stand under the open table's name
pub record MovesLists (files : Option Files) (table : OldTable)
    (white black : List ℕ) : Type 0 where
  pub bytes : List ℕ
  pub may : MayHold files table.name (Some bytes)
  pub file : IsOldFileOf table bytes
  pub white_moved : AreMoved table.rules.groups (former_codes (old_contents_of table) bytes White)
      white
  pub black_moved : AreMoved table.rules.groups (former_codes (old_contents_of table) bytes Black)
      black

-- the name may hold a file that opens as this former table, and these are its moved codes
pub record MovesFile (name : List ℕ) (old new : StoreTold) (moved : Moved) : Type 0 where
  pub bytes : List ℕ
  pub may : MayHold old.files name (Some bytes)
  pub opens : opened old_format (Some bytes) ≡ Ok (old_contents_of moved.file)
  pub white_moved :
      AreMoved moved.file.rules.groups (former_codes (old_contents_of moved.file) bytes White)
      moved.white.items
  pub black_moved :
      AreMoved moved.file.rules.groups (former_codes (old_contents_of moved.file) bytes Black)
      moved.black.items
  pub within : WithinFormer (Some bytes) old new

-- the name may hold bytes, or nothing, that are refused with this fault
pub record RefusesFormer (name : List ℕ) (old new : StoreTold) (fault : TableFault) : Type 0 where
  pub held : Option (List ℕ)
  pub may : MayHold old.files name held
  pub refuses : Refuses (opened old_format held) fault
  pub within : WithinFormer held old new
