-- Whose wins in tables are told with their plies.
use Rattle.std.specs.Prelude.{not, ℕ, Bool, true, false, ◌&&◌, ◌||◌, nat_le, List}
use Rattle.std.specs.List.{list_all}
use Rattle.frz_board.specs.declared.man.Colour.{Colour}
use Rattle.frz_board.specs.declared.man.Colour.TheVariants.{White, Black}
use Rattle.frz_sets.specs.declared.exit.Value.{Value}
use Rattle.frz_sets.specs.declared.exit.Value.TheVariants.{WhiteWins, BlackWins, Draw, WhiteHolds, BlackHolds, Unknown, WhiteWinsIn, BlackWinsIn}
use Rattle.frz_sets.specs.Views.{ExitLine}
use Rattle.frz_arena.specs.Codes.{is_win}
use Rattle.frz_backs.specs.declared.counts.Counts.{Counts}
use Rattle.frz_backs.specs.Books.{Back, back_codes}

-- the value says that the side wins, but not in how many plies
abbrev pub is_uncounted : Value → Colour → Bool
is_uncounted WhiteWins White = true
is_uncounted WhiteWins Black = false
is_uncounted BlackWins White = false
is_uncounted BlackWins Black = true
is_uncounted Draw side = false
is_uncounted WhiteHolds side = false
is_uncounted BlackHolds side = false
is_uncounted Unknown side = false
is_uncounted (WhiteWinsIn n) side = false
is_uncounted (BlackWinsIn n) side = false

-- each exit line by which the side wins says in how many plies
unfoldable pub lines_count : Colour → List ExitLine → Bool
lines_count side lines = list_all (λ line. not (is_uncounted line.value side)) lines

-- the code of no win, or of a win within 1,000 plies
abbrev pub is_short : ℕ → Bool
is_short code = not (is_win code) || nat_le code 2002

-- the side's wins in a table count: its exit lines by which the side wins give their plies, and no
-- win takes more than 1,000
unfoldable pub counts_for : Colour → Back → Bool
counts_for side back = lines_count side back.exits && list_all is_short (back_codes back side)

-- they count in all these tables
abbrev pub count_for : Colour → List Back → Bool
count_for side backs = list_all (counts_for side) backs

-- whose wins count in all these tables
abbrev pub counts_of : List Back → Counts
counts_of backs = record { white = count_for White backs; black = count_for Black backs }

abbrev pub counts_side : Counts → Colour → Bool
counts_side counts White = counts.white
counts_side counts Black = counts.black
