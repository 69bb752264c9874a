-- The bytes of a table file: magic, length of the text, text, size, and the entries, White's first.
use Rattle.std.specs.Prelude.{ℕ, List, ◌++◌, length}
use Rattle.std.specs.List.{flat_map}
use Rattle.byteorder.specs.Endian.{little_bytes}

abbrev pub table_bytes : List ℕ → List ℕ → ℕ → List ℕ → List ℕ
table_bytes magic text size entries =
    magic ++ little_bytes 4 (length text) ++ text ++ little_bytes 4 size ++ flat_map
    (little_bytes 4) entries
