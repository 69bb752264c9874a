-- The digits of the former format as they are found, one after another.
use Rattle.std.specs.Prelude.{ℕ, suc, ◌≡◌, ◌≤◌, List, length, map, filter, reverse, Option, None, Some}
use Rattle.std.specs.List.{range_with_len}
use Rattle.frz_board.specs.declared.man.Colour.{Colour}
use Rattle.frz_board.specs.declared.man.Colour.TheVariants.{White, Black}
use Rattle.frz_board.specs.declared.man.Kind.{Kind}
use Rattle.frz_board.specs.Boards.{Board}
use Rattle.frz_combinations.specs.Binomials.{capped}
use Rattle.frz_combinations.specs.MixedRadix.{value_onto}
use Rattle.frz_sets.specs.Views.{GroupLine}
use Rattle.frz_sets.specs.Sets.{is_possible}
use Rattle.frz_index.specs.Places.{places_among}
use Rattle.frz_index.specs.OldNumbers.{old_radix}

-- the radices of n digits from the one at k on
abbrev pub radices_from : ℕ → ℕ → ℕ → ℕ → List ℕ
radices_from states least k n = map (old_radix states least) (range_with_len k n)

-- `count` men stand as the first n states say, and `number` is the start with their places appended
-- as digits
pub record ArePlaced (p : Board) (c : Colour) (states : List (Kind × ℕ))
    (least most start n count number : ℕ) : Type 0 where
  pub count_is : count ≡ length (places_among p c states n)
  pub few : count ≤ most
  pub number_is : number
      ≡ capped (value_onto start (radices_from (length states) least 0 count)
      (reverse (places_among p c states n)))

-- the number of the turn state: 0 for White to move, 1 for Black to move, and for a target 2 plus
-- how many possible targets are before it
abbrev pub turn_before : List GroupLine → Colour → Option ℕ → ℕ
turn_before gs c (Some t) = suc (suc (length (filter (is_possible gs) (range_with_len 0 t))))
turn_before gs White None = 0
turn_before gs Black None = 1
