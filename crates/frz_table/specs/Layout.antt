-- The bytes of a table file: a header of magic, length of the
-- text, text and size, then White's codes, then Black's.
use Rattle.std.specs.Prelude.{ℕ, ◌+◌, ◌*◌, ◌/◌, List, ◌++◌, length, drop, codes, Bool, true, false, Option, Some, None, if◌then◌else◌}
use Rattle.std.specs.Str.{bytes_eq}
use Rattle.std.specs.Int.{w32, to_le_bytes}
use Rattle.frz_board.specs.declared.man.Colour.{Colour}
use Rattle.frz_board.specs.declared.man.Colour.TheVariants.{White, Black}
use Rattle.frz_table.specs.declared.kind.FileKind.{FileKind}
use Rattle.frz_table.specs.declared.kind.FileKind.TheVariants.{Plain, Chained, Atlas}
use Rattle.frz_table.specs.declared.other.OtherFile.{OtherFile}
use Rattle.frz_table.specs.declared.other.OtherFile.TheVariants as others
use Rattle.frz_table.specs.Numbers.{numbers, number_bytes}

-- the first eight bytes
abbrev pub magic_of : FileKind → List ℕ
magic_of Plain = codes "FREEZER2"
magic_of Chained = codes "FREEZERC"
magic_of Atlas = codes "FREEZERB"

-- those of the former format, and those of tables over others whose codes meant something else
abbrev pub former_magic : List ℕ
former_magic = codes "FREEZER1"

abbrev pub older_magic : List ℕ
older_magic = codes "FREEZERA"

-- the kind of a file that begins so, where it is opened as its own: Atlas where it begins as a table
-- that leans on others, and else Plain
abbrev pub kind_by : Bool → FileKind
kind_by true = Atlas
kind_by false = Plain

abbrev pub kind_begun : List ℕ → FileKind
kind_begun front = kind_by (bytes_eq front (magic_of Atlas))

-- the first eight bytes that are due where these eight stand: the ones that are given, or those of
-- the kind of a file that begins so
abbrev pub due_magic : Option (List ℕ) → List ℕ → List ℕ
due_magic (Some magic) = λ front. magic
due_magic None = λ front. magic_of (kind_begun front)

-- what else a file is that begins so
abbrev pub other_begun : List ℕ → Option OtherFile
other_begun front =
    if bytes_eq front (magic_of Chained) then Some others.Chained else
    (if bytes_eq front former_magic then Some others.Former else
    (if bytes_eq front older_magic then Some others.Older else None))

-- what is said of eight bytes that are not due: nothing more where a magic is given
abbrev pub other_file : Option (List ℕ) → List ℕ → Option OtherFile
other_file (Some magic) = λ front. None
other_file None = other_begun

-- how files are to begin: the eight bytes that are due where eight bytes stand, and what else the
-- file is where these are not due
pub record Front : Type 0 where
  pub magic : List ℕ → List ℕ
  pub other : List ℕ → Option OtherFile

abbrev pub due_front : Option (List ℕ) → Front
due_front magic = record { magic = due_magic magic; other = other_file magic }

abbrev pub header_of : List ℕ → List ℕ → ℕ → List ℕ
header_of magic text size =
    magic ++ (to_le_bytes w32 (length text) ++ (text ++ to_le_bytes w32 size))

abbrev pub file_of : List ℕ → List ℕ → ℕ → List ℕ → List ℕ → List ℕ
file_of magic text size white black =
    header_of magic text size ++ (number_bytes white ++ number_bytes black)

-- how many bytes a file of this text and this size has
abbrev pub due_length : List ℕ → ℕ → ℕ
due_length text size = 16 + length text + 8 * size

-- how many pieces of 16,384 codes `count` codes make, of which the last may be shorter
abbrev pub pieces_of : ℕ → ℕ
pieces_of count = (count + 16383) / 16384

-- the byte at which a side's codes begin
abbrev pub place_of : Colour → List ℕ → ℕ → ℕ
place_of White text size = 16 + length text
place_of Black text size = 16 + length text + 4 * size

-- a side's codes in order of number
abbrev pub codes_at : Colour → List ℕ → ℕ → List ℕ → List ℕ
codes_at side text size bytes = numbers size (drop (place_of side text size) bytes)
