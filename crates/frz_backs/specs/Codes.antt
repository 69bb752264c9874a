-- The two codes of a position in a table, White's and Black's.
use Rattle.std.specs.Prelude.{ℕ, slice_index, Option, Some, None}
use Rattle.frz_board.specs.Boards.{Board}
use Rattle.frz_index.specs.Membership.{number_of}
use Rattle.frz_backs.specs.Books.{Back}

-- the codes at a number, none if there is no number
abbrev pub codes_at : Back → Option ℕ → Option (ℕ × ℕ)
codes_at back None = None
codes_at back (Some i) = Some (slice_index back.white i, slice_index back.black i)

-- the codes of a position, none if the position is not in the set of the table
abbrev pub codes_of : Back → Board → Option (ℕ × ℕ)
codes_of back q = codes_at back (number_of back.groups q)
