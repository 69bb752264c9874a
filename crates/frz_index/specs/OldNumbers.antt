-- Numbers of the former format: a digit for each man that a group may have.
use Rattle.std.specs.Prelude.{ℕ, ◌+◌, ◌-◌, ◌*◌, List, ◌++◌, length, map, replicate, reverse, nat_lt, if◌then◌else◌}
use Rattle.std.specs.List.{flat_map, range_with_len}
use Rattle.frz_board.specs.Boards.{Board}
use Rattle.frz_combinations.specs.MixedRadix.{product, value_onto}
use Rattle.frz_sets.specs.Views.{GroupLine}
use Rattle.frz_sets.specs.Sets.{targets}
use Rattle.frz_index.specs.Places.{places}
use Rattle.frz_index.specs.TurnStates.{turn_number}

-- the radix of digit k, counted from 0: the number of states, and from digit `least` on one value
-- more, which means an absent man
abbrev pub old_radix : ℕ → ℕ → ℕ → ℕ
old_radix states least k = if nat_lt k least then states else states + 1

-- the radices of a group's digits, one for each of its most men
abbrev pub old_radices : GroupLine → List ℕ
old_radices g = map (old_radix (length g.states) g.least) (range_with_len 0 g.most)

-- the digits of a group: the places of its men, increasing, and then the absent ones
abbrev pub old_digits : Board → GroupLine → List ℕ
old_digits p g =
    reverse (places p g) ++ replicate (g.most - length (places p g)) (length g.states)

-- a position's number: the turn state, and for each digit of each group the number so far times the
-- digit's radix, plus the digit
unfoldable pub OldNum : List GroupLine → Board → ℕ
OldNum gs p =
    value_onto (turn_number gs p.turn p.ep) (flat_map old_radices gs) (flat_map (old_digits p) gs)

-- how many numbers there are: the turn states times the product of all radices
unfoldable pub old_size_of : List GroupLine → ℕ
old_size_of gs = (2 + length (targets gs)) * product (flat_map old_radices gs)
