-- The ways out of a set: the positions one legal move outside it, in order.
use Rattle.std.specs.Prelude.{not, ℕ, List, [], filter, flat_map, map, Option, Some, None}
use Rattle.std.specs.List.{range_with_len}
use Rattle.frz_board.specs.Boards.{Board}
use Rattle.frz_fide.specs.Legal.{after}
use Rattle.frz_fide.specs.Listing.{legal_moves_of}
use Rattle.frz_sets.specs.Sets.{size_of}
use Rattle.frz_sets.specs.Views.{GroupLine}
use Rattle.frz_index.specs.Membership.{is_member, position_at}

-- the positions outside the set after the legal moves of this one, free or not, in move order
abbrev pub outside_after : List GroupLine → Board → List Board
outside_after groups p =
    filter (λ q. not (is_member groups q)) (map (λ m. after p m) (legal_moves_of p))

abbrev pub outside_on : List GroupLine → Option Board → List Board
outside_on groups None = []
outside_on groups (Some p) = outside_after groups p

-- those after the moves of the number, and none where the number is broken
abbrev pub outside_at : List GroupLine → ℕ → List Board
outside_at groups i = outside_on groups (position_at groups i)

-- those after the moves of the numbers below n, by number
abbrev pub outside_below : List GroupLine → ℕ → List Board
outside_below groups n = flat_map (outside_at groups) (range_with_len 0 n)

-- all of them: the exits of the set, by number and move
abbrev pub outside_of : List GroupLine → List Board
outside_of groups = outside_below groups (size_of groups)
