-- The values of positions outside the set, by exit lines and by a second table behind them.
use Rattle.std.specs.Prelude.{ℕ, List, slice_index, Option, Some, None}
use Rattle.frz_board.specs.Boards.{Board}
use Rattle.frz_sets.specs.declared.exit.Value.{Value}
use Rattle.frz_sets.specs.declared.exit.Value.TheVariants.{Unknown}
use Rattle.frz_sets.specs.Views.{GroupLine, RuleLines}
use Rattle.frz_exits.specs.Books.{value_by}
use Rattle.frz_index.specs.Membership.{number_of}
use Rattle.frz_chain.specs.PairValues.{pair_value}

-- a table behind the exit lines: the groups of its set, and the codes of both sides
pub record Back : Type 0 where
  pub groups : List GroupLine
  pub white : List ℕ
  pub black : List ℕ

abbrev pub back_with : List GroupLine → (white black : List ℕ) → Back
back_with groups white black = record { groups = groups; white = white; black = black }

-- the value by the codes at a number, unknown if there is no number
abbrev pub told_at : Back → Option ℕ → Value
told_at back None = Unknown
told_at back (Some i) = pair_value (slice_index back.white i) (slice_index back.black i)

-- the value of a position by the table, unknown if the position is not in its set
abbrev pub back_value : Back → Board → Value
back_value back q = told_at back (number_of back.groups q)

-- the first value, or the second where the first is unknown
abbrev pub or_else : Value → Value → Value
or_else Unknown second = second
or_else first second = first

-- the value by the exit lines, and by the table where they say nothing
abbrev pub chain_value : RuleLines → Back → Board → Value
chain_value rules back q = or_else (value_by rules q) (back_value back q)
