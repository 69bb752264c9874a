-- What a table says of a position, against the value that an exit line gives it.
use Rattle.std.specs.Prelude.{not, ℕ, ◌+◌, ◌*◌, Bool, true, false, ◌==◌, ◌&&◌, ◌||◌, nat_le, List, slice_index, Option, Some, None}
use Rattle.std.specs.List.{list_all, list_any}
use Rattle.frz_board.specs.declared.man.Colour.{Colour}
use Rattle.frz_board.specs.declared.man.Colour.TheVariants.{White, Black}
use Rattle.frz_board.specs.Boards.{Board}
use Rattle.frz_sets.specs.declared.exit.Value.{Value}
use Rattle.frz_sets.specs.declared.exit.Value.TheVariants.{WhiteWins, BlackWins, Draw, WhiteHolds, BlackHolds, Unknown, WhiteWinsIn, BlackWinsIn}
use Rattle.frz_index.specs.Membership.{number_of}
use Rattle.frz_arena.specs.Codes.{is_win}
use Rattle.frz_backs.specs.Counts.{lines_count}
use Rattle.frz_backs.specs.Links.{Link}

-- the plies of the side's wins in the table are plies to mate: the table leans on no other, and
-- each of its exit lines by which the side wins gives a number of plies
abbrev pub counts_wins : Link → Colour → Bool
counts_wins link side = not link.leans && lines_count side link.rules.exits

-- the code of a hold or of a win
abbrev pub holds : ℕ → Bool
holds code = (code == 1) || is_win code

-- the code of a win within n plies
abbrev pub wins_within : ℕ → ℕ → Bool
wins_within n code = is_win code && nat_le code (2 + 2 * n)

-- the codes of a table, White's and Black's, say at least as much as the value: a win of the side
-- that wins by it, within its number of plies where it gives one; a hold or a win of the side that
-- holds by it, and of both sides in a draw. An unknown value asks nothing
abbrev pub codes_say : Link → (white black : ℕ) → Value → Bool
codes_say link white black WhiteWins = is_win white
codes_say link white black BlackWins = is_win black
codes_say link white black (WhiteWinsIn n) = wins_within n white && counts_wins link White
codes_say link white black (BlackWinsIn n) = wins_within n black && counts_wins link Black
codes_say link white black Draw = holds white && holds black
codes_say link white black WhiteHolds = holds white
codes_say link white black BlackHolds = holds black
codes_say link white black Unknown = true

abbrev pub says_at : Value → Link → Option ℕ → Bool
says_at value link None = false
says_at value link (Some i) =
    codes_say link (slice_index link.back.white i) (slice_index link.back.black i) value

-- the position is in the set of the table, and the table says there at least as much as the value
unfoldable pub says_as_much : Value → Link → Board → Bool
says_as_much value link q = says_at value link (number_of link.back.groups q)

-- none of the tables says as much
abbrev pub none_says : List Link → Value → Board → Bool
none_says links value q = not (list_any (λ link. says_as_much value link q) links)

-- the table says as much at each of the positions
abbrev pub says_at_each : Value → List Board → Link → Bool
says_at_each value qs link = list_all (says_as_much value link) qs
