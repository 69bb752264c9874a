-- What configurations and kings' squares add to numbers.
use Rattle.std.specs.Prelude.{ℕ, ◌+◌, ◌≡◌, ◌<◌, Bool, not, ◌&&◌, ◌||◌, ◌==◌, List, length, slice_index}
use Rattle.std.specs.List.{list_all, list_any}
use Rattle.frz_board.specs.declared.man.Colour.{Colour}
use Rattle.frz_board.specs.Men.{same_colour}
use Rattle.frz_sets.specs.Groups.{is_king}
use Rattle.frz_sets.specs.Views.{GroupLine}
use Rattle.frz_configurations.specs.Configurations.{IsSplit, configuration_count, has_kings}
use Rattle.frz_configurations.specs.Joined.{IsKingSquare, of_colour}
use Rattle.frz_configurations.specs.declared.configurations.Split.{Split}

-- a king on the square is one of the group's states
abbrev pub has_king : GroupLine → ℕ → Bool
has_king g s = list_any (λ state. is_king state && state.1 == s) g.states

-- the group has a king on the square, if it has kings of the colour
abbrev pub allows_king : Colour → ℕ → GroupLine → Bool
allows_king c s g = not (same_colour g.colour c && has_kings g) || has_king g s

-- each group of kings of the colour has one on the square
abbrev pub is_king_square : List GroupLine → Colour → ℕ → Bool
is_king_square gs c s = list_all (allows_king c s) gs

-- of a split, the numbers with the colour's king on each square where groups have him
abbrev pub AreMoved : List GroupLine → Split → Colour → List ℕ → Type 0
AreMoved gs origin colour numbers =
    (s : ℕ) → s < 64 → IsKingSquare gs colour s →
    IsSplit gs (slice_index numbers s) origin.configuration (of_colour colour s origin.white)
    (of_colour colour origin.black s)

-- the number of each configuration with the kings on a and b
pub record AreFirst (gs : List GroupLine) (a b : ℕ) (numbers : List ℕ) : Type 0 where
  pub size : length numbers ≡ configuration_count gs
  pub each : (c : ℕ) → c < configuration_count gs → IsSplit gs (slice_index numbers c) c a b

-- each number is the sum of what its configuration and its kings' squares add
pub record AreShares (gs : List GroupLine) (configurations white black : List ℕ) : Type 0 where
  pub size : length configurations ≡ configuration_count gs
  pub sum : (i c a b : ℕ) → a < 64 → b < 64 → IsSplit gs i c a b →
      i ≡ slice_index configurations c + slice_index white a + slice_index black b
