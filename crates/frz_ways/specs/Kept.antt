-- The codes that a table file keeps for a side.
use Rattle.std.specs.Prelude.{◌≡◌, ℕ, List, length, Option, Some, None}
use Rattle.std.specs.Option.{option_and_then, option_map}
use Rattle.frz_board.specs.declared.man.Colour.{Colour}
use Rattle.frz_store.specs.Files.{Files}
use Rattle.frz_store.specs.Told.{StoreTold}
use Rattle.frz_table.specs.Layout.{codes_at}
use Rattle.frz_table.specs.Numbers.{AreNumbers}
use Rattle.frz_table.specs.Tables.{Table, table_size}

-- the codes of the side in order of number, where it is known what the store holds and the file is
-- there
abbrev pub told_codes : Table → Colour → Option Files → Option (List ℕ)
told_codes table side files =
    option_and_then (λ m. option_map (codes_at side table.text (table_size table)) (m table.name))
    files

-- these may be a side's codes, one for each of `size` numbers, as they are read at one time: the
-- known codes where these are known, and else any numbers of 32 bits
abbrev pub MayRead : Option (List ℕ) → (size : ℕ) → List ℕ → Type 0
MayRead None size codes = (length codes ≡ size) × AreNumbers codes
MayRead (Some told) size codes = codes ≡ told

-- what a store tells that holds nothing and is never called
abbrev pub uncalled : StoreTold
uncalled = record {
  files = None;
  last = None;
  room = 0;
  asked = 0;
  calls = 0;
  faults = 0;
  wants = 0;
}
