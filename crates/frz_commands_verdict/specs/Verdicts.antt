-- The verdict on a position, by the codes of both sides in a table.
use Rattle.std.specs.Prelude.{ℕ, Bool, true, false, List, ◌==◌, ◌-◌, ◌/◌, slice_index, if◌then◌else◌}
use Rattle.frz_board.specs.declared.man.Colour.{Colour}
use Rattle.frz_board.specs.declared.man.Colour.TheVariants.{White, Black}
use Rattle.frz_board.specs.Boards.{Board}
use Rattle.frz_index.specs.Members.{Num}
use Rattle.frz_arena.specs.Codes.{is_win}
use Rattle.frz_sets.specs.Views.{RuleLines}
use Rattle.frz_backs.specs.declared.counts.Counts.{Counts}
use Rattle.frz_backs.specs.Books.{Back, back_codes}
use Rattle.frz_backs.specs.Counts.{counts_of, lines_count}
use Rattle.frz_backs.specs.Links.{Link, backs_of}
use Rattle.frz_commands_verdict.specs.declared.verdict.Verdict.{Verdict}
use Rattle.frz_commands_verdict.specs.declared.verdict.Verdict.TheVariants.{MatesWithin, Wins, Draw, DoesNotLose, NotShown}

-- by the code of a win, whose plies count to the mate or do not
abbrev pub won : Colour → (code : ℕ) → (counts : Bool) → Verdict
won side code counts = if counts then MatesWithin side ((code - 2) / 2) else Wins side

-- by codes of which neither is that of a win: 1 is the code of a hold
abbrev pub held : (white black : ℕ) → Verdict
held white black =
    if white == 1 then (if black == 1 then Draw else DoesNotLose White) else
    (if black == 1 then DoesNotLose Black else NotShown)

-- by the codes of both sides; two wins contradict each other, and show nothing
abbrev pub verdict_by : (white black : ℕ) → (white_counts black_counts : Bool) → Verdict
verdict_by white black white_counts black_counts =
    if is_win white then (if is_win black then NotShown else won White white white_counts) else
    (if is_win black then won Black black black_counts else held white black)

-- the code of a side at a position of the table's set
abbrev pub code_at : Link → Colour → Board → ℕ
code_at own side p = slice_index (back_codes own.back side) (Num own.rules.groups p)

-- whose exit lines of these rules give the plies of their wins
abbrev pub own_counts : RuleLines → Counts
own_counts rules =
    record { white = lines_count White rules.exits; black = lines_count Black rules.exits }

-- whose wins in a table give their plies to the mate: by its exit lines or, where it leans on
-- others, by those of all tables, in which no win takes more than 1,000 plies
abbrev pub counts_over : (leans : Bool) → RuleLines → List Back → Counts
counts_over true rules backs = counts_of backs
counts_over false rules backs = own_counts rules

-- so it is of `own`, the last of these tables
abbrev pub counts_through : List Link → Link → Counts
counts_through tables own = counts_over own.leans own.rules (backs_of tables)

abbrev pub verdict_at : List Link → Link → Board → Verdict
verdict_at tables own p =
    verdict_by (code_at own White p) (code_at own Black p) (counts_through tables own).white
    (counts_through tables own).black
