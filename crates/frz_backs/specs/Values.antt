-- The values of positions outside the set, by exit lines and by several tables behind them.
use Rattle.std.specs.Prelude.{◌-◌, ◌/◌, ℕ, Bool, List, [], ◌∷◌, slice_index, Option, Some, None, if◌then◌else◌}
use Rattle.std.specs.List.{list_any}
use Rattle.frz_board.specs.Boards.{Board}
use Rattle.frz_sets.specs.declared.exit.Value.{Value}
use Rattle.frz_sets.specs.declared.exit.Value.TheVariants.{WhiteWins, BlackWins, Unknown, WhiteWinsIn, BlackWinsIn}
use Rattle.frz_sets.specs.Views.{RuleLines}
use Rattle.frz_exits.specs.Books.{value_by}
use Rattle.frz_index.specs.Membership.{is_member, number_of}
use Rattle.frz_chain.specs.Books.{or_else}
use Rattle.frz_chain.specs.PairValues.{pair_value}
use Rattle.frz_backs.specs.declared.counts.Counts.{Counts}
use Rattle.frz_backs.specs.Behind.{value_behind}
use Rattle.frz_backs.specs.Books.{Back}
use Rattle.frz_backs.specs.Counts.{counts_of}

-- the plies of a win, by its code
abbrev pub plies_in : ℕ → ℕ
plies_in code = (code - 2) / 2

-- a win as it is told, with the plies of the winner's code where his wins count
abbrev pub with_plies : Counts → (white black : ℕ) → Value → Value
with_plies counts white black WhiteWins =
    if counts.white then WhiteWinsIn (plies_in white) else WhiteWins
with_plies counts white black BlackWins =
    if counts.black then BlackWinsIn (plies_in black) else BlackWins
with_plies counts white black value = value

-- what two codes tell, White's and Black's
abbrev pub pair_told : Counts → (white black : ℕ) → Value
pair_told counts white black = with_plies counts white black (pair_value white black)

-- what the table tells at this number
abbrev pub told_in : Counts → Back → ℕ → Value
told_in counts back i = pair_told counts (slice_index back.white i) (slice_index back.black i)

-- what the table tells at its number of the position, and the rest's value where its set has no
-- such position
abbrev pub told_or : Counts → Back → Value → Option ℕ → Value
told_or counts back rest None = rest
told_or counts back rest (Some i) = told_in counts back i

-- what a table tells of a position, and Unknown where its set does not hold it
abbrev pub back_value : Counts → Back → Board → Value
back_value counts back q = told_or counts back Unknown (number_of back.groups q)

-- what the first table whose set holds the position tells of it, and the rest's value where no set
-- does
unfoldable pub first_value : Counts → Value → List Back → Board → Value
first_value counts rest [] q = rest
first_value counts rest (back ∷ backs) q =
    told_or counts back (first_value counts rest backs q) (number_of back.groups q)

-- the value by the exit lines; where they say nothing, by the first table that has the position;
-- where none has it, by the lines behind all tables
abbrev pub atlas_value : RuleLines → List Back → Board → Value
atlas_value rules backs q =
    or_else (value_by rules q) (first_value (counts_of backs) (value_behind rules q) backs q)

-- the set of one of the tables holds the position
unfoldable pub is_behind : List Back → Board → Bool
is_behind backs q = list_any (λ back. is_member back.groups q) backs

-- the value by the text's own lines alone: those behind all tables are asked where no table has the
-- position
abbrev pub own_value : RuleLines → List Back → Board → Value
own_value rules backs q =
    or_else (value_by rules q) (if is_behind backs q then Unknown else value_behind rules q)
