-- Which positions a set has, as a test, and their numbers both ways, as functions.
use Rattle.std.specs.Prelude.{ℕ, Bool, ◌==◌, ◌&&◌, ◌||◌, nat_lt, nat_le, List, length, slice_index, Option, Some, None, is_ok, if◌then◌else◌}
use Rattle.std.specs.List.{list_all}
use Rattle.frz_board.specs.Squares.{squares}
use Rattle.frz_board.specs.Boards.{Board, is_empty}
use Rattle.frz_fide.specs.Valid.{validity_of}
use Rattle.frz_sets.specs.Views.{GroupLine}
use Rattle.frz_sets.specs.Sets.{has_state}
use Rattle.frz_index.specs.Places.{places}
use Rattle.frz_index.specs.Members.{Num}
use Rattle.frz_index.specs.Candidates.{candidate}

-- 64 cells, each with a man's number or 0
unfoldable pub are_cells : List ℕ → Bool
are_cells cells = length cells == 64 && list_all (λ c. nat_lt c 13) cells

-- the position is valid: no condition of validity fails
unfoldable pub is_valid : Board → Bool
is_valid p = are_cells p.cells && is_ok (validity_of p)

-- each man has a state of a group of its colour
unfoldable pub are_men_covered : List GroupLine → Board → Bool
are_men_covered groups p =
    list_all (λ s. is_empty p s || has_state groups (slice_index p.cells s) s) squares

-- the group has neither too few men nor too many
unfoldable pub is_counted : Board → GroupLine → Bool
is_counted p g = nat_le g.least (length (places p g)) && nat_le (length (places p g)) g.most

-- the position is in the set
unfoldable pub is_member : List GroupLine → Board → Bool
is_member groups p = is_valid p && (are_men_covered groups p && list_all (is_counted p) groups)

-- the number of a position of the set
unfoldable pub number_of : List GroupLine → Board → Option ℕ
number_of groups p = if is_member groups p then Some (Num groups p) else None

-- the position of the set with a number
unfoldable pub position_at : List GroupLine → ℕ → Option Board
position_at groups i =
    let p = candidate groups i in
    if is_member groups p && (Num groups p == i) then Some p else None
