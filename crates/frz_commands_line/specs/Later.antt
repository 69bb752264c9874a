-- What a store may hold each time that one of its files is read again.
use Rattle.std.specs.Prelude.{◌≡◌, ℕ, zero, suc, List, Option, Ok}
use Rattle.frz_store.specs.Bytes.{MayBeHeld}
use Rattle.frz_store.specs.Files.{Files, bytes_at}
use Rattle.frz_table.specs.declared.kind.FileKind.TheVariants.{Plain}
use Rattle.frz_table.specs.Opening.{contents_of, opened, table_format}
use Rattle.frz_table.specs.Tables.{Table}

-- `later k` is what the store may hold after k plies. A store whose contract tells what it holds
-- always holds that; any other may hold any files of bytes each time
abbrev pub MayBeLater : Option Files → (later : ℕ → Files) → Type 0
MayBeLater told later = (k : ℕ) → MayBeHeld told (later k)

-- what the store holds from an opening on: at ply 0 the files of the opening, and then what it
-- holds later
abbrev pub from_opening : Files → (later : ℕ → Files) → ℕ → Files
from_opening files later zero = files
from_opening files later (suc k) = later (suc k)

-- the open table may have been opened in what the store holds at ply 0
abbrev pub OpensAtStart : (later : ℕ → Files) → Table → Type 0
OpensAtStart later table =
    opened (table_format Plain) (later 0 table.name) ≡ Ok (contents_of table)

-- the bytes that the name holds after k plies
abbrev pub held_later : (later : ℕ → Files) → (name : List ℕ) → ℕ → List ℕ
held_later later name k = bytes_at (later k) name
