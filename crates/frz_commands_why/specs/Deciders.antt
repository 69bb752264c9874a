-- Which exit line or which table decided the value of a position outside a set.
use Rattle.std.specs.Prelude.{ℕ, ◌+◌, ◌&&◌, Bool, List, Option, None, Some, if◌then◌else◌, slice_get, option_and_then}
use Rattle.std.specs.List.{position_from}
use Rattle.frz_board.specs.Boards.{Board}
use Rattle.frz_sets.specs.Views.{RuleLines}
use Rattle.frz_exits.specs.Books.{value_by}
use Rattle.frz_exits.specs.Values.{is_unknown}
use Rattle.frz_index.specs.Membership.{is_member}
use Rattle.frz_backs.specs.Books.{Back}
use Rattle.frz_backs.specs.Lines.{line_over}
use Rattle.frz_commands_why.specs.declared.decider.Decider.{Decider}
use Rattle.frz_commands_why.specs.declared.decider.Decider.TheVariants.{Line, Behind, NoLine}

-- the place of the first of these tables whose set holds the position; the first table has place 0
abbrev pub back_at : List Back → Board → Option ℕ
back_at backs q = position_from (λ back. is_member back.groups q) 0 backs

-- the tables are asked only in a text that leans on them, where the exit lines before them say
-- nothing of the position
abbrev pub asked_back : (leans : Bool) → RuleLines → List Back → Board → Option ℕ
asked_back leans rules backs q =
    if leans && is_unknown (value_by rules q) then back_at backs q else None

-- the number in its file of the exit line at this place, by the numbers of all exit lines
abbrev pub number_at : (numbers : List ℕ) → (place : Option ℕ) → Option ℕ
number_at numbers place = option_and_then (slice_get numbers) place

-- the table whose value counts, if one does, and else the exit line that gives the value. Tables are counted
-- from 1
abbrev pub decider_by : (back number : Option ℕ) → Decider
decider_by (Some k) number = Behind (k + 1)
decider_by None (Some n) = Line n
decider_by None None = NoLine

-- what decided the value of the position: `numbers` are those of the exit lines in their file, and
-- `backs` the tables that stand behind these lines, where the text leans on them
unfoldable pub decider_of : (leans : Bool) → (numbers : List ℕ) → RuleLines → List Back → Board →
    Decider
decider_of leans numbers rules backs q =
    decider_by (asked_back leans rules backs q) (number_at numbers (line_over leans rules backs q))
