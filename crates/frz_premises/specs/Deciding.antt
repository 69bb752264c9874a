-- Which positions an exit line decides.
use Rattle.std.specs.Prelude.{ℕ, Bool, false, ◌==◌, List, filter, Option, Some, None}
use Rattle.frz_board.specs.Boards.{Board}
use Rattle.frz_sets.specs.Views.{RuleLines}
use Rattle.frz_backs.specs.Lines.{line_over}
use Rattle.frz_backs.specs.Links.{Link, backs_of}

abbrev pub is_place : ℕ → Option ℕ → Bool
is_place i None = false
is_place i (Some k) = k == i

-- the line at this place decides the position: it is the first that fits or, in a text that leans
-- on these tables, the first behind all of them that is asked and fits
abbrev pub decides : Bool → RuleLines → List Link → ℕ → Board → Bool
decides leans rules links i q = is_place i (line_over leans rules (backs_of links) q)

-- of these positions, those that the line at this place decides
abbrev pub decided_by : Bool → RuleLines → List Link → ℕ → List Board → List Board
decided_by leans rules links i qs = filter (decides leans rules links i) qs
