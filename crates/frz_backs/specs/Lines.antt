-- Which exit line gives the value of a position.
use Rattle.std.specs.Prelude.{not, ◌+◌, ℕ, Bool, ◌&&◌, List, drop, Option, Some, None, if◌then◌else◌}
use Rattle.std.specs.List.{position_from}
use Rattle.frz_board.specs.Boards.{Board}
use Rattle.frz_sets.specs.Views.{ExitLine, RuleLines}
use Rattle.frz_exits.specs.Books.{value_by}
use Rattle.frz_exits.specs.Fitting.{line_at}
use Rattle.frz_exits.specs.Values.{is_unknown}
use Rattle.frz_backs.specs.Behind.{ends_lines}
use Rattle.frz_backs.specs.Books.{Back}
use Rattle.frz_backs.specs.Values.{is_behind}

-- the lines behind all tables are asked: those before say nothing, and no table has the position
abbrev pub is_asked_behind : RuleLines → List Back → Board → Bool
is_asked_behind rules backs q = is_unknown (value_by rules q) && not (is_behind backs q)

-- a place counted from this one on
abbrev pub place_from : ℕ → Option ℕ → Option ℕ
place_from n None = None
place_from n (Some i) = Some (n + i)

-- the place of the first line behind the end that fits
abbrev pub place_past : Option ℕ → List ExitLine → Board → Option ℕ
place_past None lines q = None
place_past (Some end) lines q = place_from (end + 1) (line_at (drop (end + 1) lines) q)

abbrev pub line_behind : RuleLines → Board → Option ℕ
line_behind rules q = place_past (position_from ends_lines 0 rules.exits) rules.exits q

abbrev pub first_place : Option ℕ → Option ℕ → Option ℕ
first_place None second = second
first_place (Some i) second = Some i

-- the place of the line that gives the value of a position by the text's own lines: in a text over
-- tables one behind them, where these are asked and one fits, else the first that fits
abbrev pub line_over : (leans : Bool) → RuleLines → List Back → Board → Option ℕ
line_over leans rules backs q =
    if leans && is_asked_behind rules backs q then
    first_place (line_behind rules q) (line_at rules.exits q) else line_at rules.exits q
