-- Where a position leaves room for one more man of a set.
use Rattle.std.specs.Prelude.{ℕ, Bool, ◌&&◌, List, length, nat_lt}
use Rattle.std.specs.List.{list_any}
use Rattle.frz_board.specs.declared.man.Man.{Man}
use Rattle.frz_board.specs.Boards.{Board}
use Rattle.frz_board.specs.Men.{cell_of_man}
use Rattle.frz_sets.specs.Sets.{is_state}
use Rattle.frz_sets.specs.Views.{GroupLine}
use Rattle.frz_index.specs.Places.{places}

-- the group has the man on the square as a state, and fewer than its most men stand on the board
abbrev pub takes_one_more : Board → Man → ℕ → GroupLine → Bool
takes_one_more p man s g = is_state (cell_of_man man) s g && nat_lt (length (places p g)) g.most

-- some group takes the man on the square
abbrev pub has_room : List GroupLine → Board → Man → ℕ → Bool
has_room gs p man s = list_any (takes_one_more p man s) gs
