-- What opening and loading a table and those behind it asks of the store.
use Rattle.std.specs.Prelude.{ℕ, ◌+◌, ◌*◌, List, length, sum_by, Option}
use Rattle.frz_table.specs.Layout.{pieces_of}
use Rattle.frz_table.specs.Opening.{opening_calls, own_format}
use Rattle.frz_table.specs.Possible.{held_text}
use Rattle.frz_atlas.specs.Costs.{bytes_of, calls_of, size_held}

abbrev pub loading_calls : Option (List ℕ) → List (Option (List ℕ)) → ℕ
loading_calls held behind =
    opening_calls own_format held + 2 * pieces_of (size_held held)
    + sum_by calls_of behind

abbrev pub loading_bytes : Option (List ℕ) → List (Option (List ℕ)) → ℕ
loading_bytes held behind =
    16 + length (held_text held) + 8 * size_held held + sum_by bytes_of behind
