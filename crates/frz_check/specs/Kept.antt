-- What a check says of a table file, by what its name may hold.
use Rattle.std.specs.Prelude.{◌≡◌, ◌≤◌, ◌+◌, ◌*◌, ◌↔◌, ℕ, List, length, Option, Some, Result, Ok, Err}
use Rattle.frz_board.specs.Boards.{Board}
use Rattle.frz_board.specs.declared.man.Colour.{Colour}
use Rattle.frz_sets.specs.declared.exit.Value.{Value}
use Rattle.frz_sets.specs.Sets.{size_of}
use Rattle.frz_game.specs.Books.{value_by}
use Rattle.frz_store.specs.Files.{Files}
use Rattle.frz_store.specs.Told.{StoreTold}
use Rattle.frz_table.specs.declared.fault.TableFault.{TableFault}
use Rattle.frz_table.specs.declared.kind.FileKind.{FileKind}
use Rattle.frz_table.specs.declared.kind.FileKind.TheVariants.{Plain}
use Rattle.frz_table.specs.Layout.{codes_at, magic_of, pieces_of}
use Rattle.frz_table.specs.Opening.{Contents, Refuses, contents_of, table_format, opened, opening_calls}
use Rattle.frz_table.specs.Possible.{MayHold, held_text}
use Rattle.frz_table.specs.Tables.{Table, IsFileOf}
use Rattle.frz_check.specs.declared.verdict.Verdict.{Verdict}
use Rattle.frz_check.specs.declared.verdict.Verdict.TheVariants.{Exact}
use Rattle.frz_check.specs.OneFile.{IsOneFile}
use Rattle.frz_check.specs.Verdicts.{IsVerdict}

-- the codes of each side that these bytes keep
abbrev pub kept_codes : Contents → List ℕ → Colour → List ℕ
kept_codes contents bytes side = codes_at side contents.text (size_of contents.rules.groups) bytes

-- the verdict on bytes that open with these contents, by the values of a book; it is `Exact`
-- exactly if they are, byte by byte, the one file of their text
pub record IsVerdictOn (kind : FileKind) (value : Board → Value) (contents : Contents)
    (bytes : List ℕ) (verdict : Verdict) : Type 0 where
  pub codes : IsVerdict contents.rules value (kept_codes contents bytes) verdict
  pub one_file :
      (verdict ≡ Exact) ↔ IsOneFile (magic_of kind) contents.text contents.rules value bytes

-- the verdict on a file that the open table's name may hold
pub record ChecksTable (files : Option Files) (table : Table) (value : Board → Value)
    (verdict : Verdict) : Type 0 where
  pub bytes : List ℕ
  pub may : MayHold files table.name (Some bytes)
  pub file : IsFileOf table bytes
  pub told : IsVerdictOn table.kind value (contents_of table) bytes verdict

-- the size of the set of a table that opens, and 0 if it is refused
abbrev pub opened_size : Result Contents TableFault → ℕ
opened_size (Ok contents) = size_of contents.rules.groups
opened_size (Err fault) = 0

-- no more steps, bytes and calls than checking the held file takes
pub record WithinFile (held : Option (List ℕ)) (old new : StoreTold)
    (steps_before steps_now : ℕ) : Type 0 where
  pub steps : steps_now ≤ steps_before + opened_size (opened (table_format Plain) held)
  pub asked : new.asked ≤
      old.asked + (16 + length (held_text held) + 8 * opened_size
      (opened (table_format Plain) held))
  pub calls : new.calls ≤
      old.calls + (opening_calls (table_format Plain) held + 2 * pieces_of
      (opened_size (opened (table_format Plain) held)))

-- the verdict on a plain table that the name may hold
pub record ChecksFile (name : List ℕ) (old new : StoreTold) (steps_before steps_now : ℕ)
    (verdict : Verdict) : Type 0 where
  pub bytes : List ℕ
  pub may : MayHold old.files name (Some bytes)
  pub contents : Contents
  pub opens : opened (table_format Plain) (Some bytes) ≡ Ok contents
  pub told : IsVerdictOn Plain (value_by contents.rules) contents bytes verdict
  pub within : WithinFile (Some bytes) old new steps_before steps_now

-- the name may hold what is refused with this fault
pub record RefusesFile (name : List ℕ) (old new : StoreTold) (steps_before steps_now : ℕ)
    (fault : TableFault) : Type 0 where
  pub held : Option (List ℕ)
  pub may : MayHold old.files name held
  pub refuses : Refuses (opened (table_format Plain) held) fault
  pub within : WithinFile held old new steps_before steps_now
