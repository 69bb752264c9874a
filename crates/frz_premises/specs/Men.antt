-- What the men on the board alone show of a value.
use Rattle.std.specs.Prelude.{ℕ, Bool, true, false, ◌==◌, ◌&&◌, ◌||◌, nat_le}
use Rattle.frz_board.specs.declared.man.Colour.{Colour}
use Rattle.frz_board.specs.declared.man.Colour.TheVariants.{White, Black}
use Rattle.frz_board.specs.declared.man.Kind.TheVariants.{Queen, Rook, Bishop, Knight, Pawn}
use Rattle.frz_board.specs.Boards.{Board}
use Rattle.frz_board.specs.Shapes.{count_of}
use Rattle.frz_sets.specs.declared.exit.Value.{Value}
use Rattle.frz_sets.specs.declared.exit.Value.TheVariants.{WhiteWins, BlackWins, Draw, WhiteHolds, BlackHolds, Unknown, WhiteWinsIn, BlackWinsIn}

-- the side has no queen, no rook and no pawn
abbrev pub has_no_major : Board → Colour → Bool
has_no_major p c =
    (count_of p c Queen == 0) && ((count_of p c Rook == 0) && (count_of p c Pawn == 0))

-- the side has at most so many bishops and so many knights
abbrev pub has_minors : Board → Colour → (bishops knights : ℕ) → Bool
has_minors p c bishops knights =
    nat_le (count_of p c Bishop) bishops && nat_le (count_of p c Knight) knights

-- the side has its king alone
unfoldable pub is_bare : Board → Colour → Bool
is_bare p c = has_no_major p c && has_minors p c 0 0

-- beside its king the side has one man at most, a bishop or a knight
unfoldable pub has_one_minor : Board → Colour → Bool
has_one_minor p c = has_no_major p c && (has_minors p c 1 0 || has_minors p c 0 1)

-- neither side has the men to mate
unfoldable pub has_dead_men : Board → Bool
has_dead_men p =
    (is_bare p White && has_one_minor p Black) || (is_bare p Black && has_one_minor p White)

-- the men show that the value is true: a draw where neither side has the men to mate, a hold
-- against a bare king. They never show a win, and an unknown value says nothing
abbrev pub men_show : Value → Board → Bool
men_show Draw q = has_dead_men q
men_show WhiteHolds q = is_bare q Black
men_show BlackHolds q = is_bare q White
men_show Unknown q = true
men_show WhiteWins q = false
men_show BlackWins q = false
men_show (WhiteWinsIn n) q = false
men_show (BlackWinsIn n) q = false
