-- What the last groups of a set add to a number.
use Rattle.std.specs.Prelude.{ℕ, ◌+◌, ◌*◌, ◌≡◌, true, Some, List, map}
use Rattle.std.specs.List.{slice_get}
use Rattle.frz_board.specs.declared.man.Colour.{Colour}
use Rattle.frz_board.specs.declared.man.Colour.TheVariants.{White, Black}
use Rattle.frz_board.specs.declared.man.Kind.TheVariants.{King}
use Rattle.frz_combinations.specs.MixedRadix.{AreDigits, product, value}
use Rattle.frz_sets.specs.Groups.{has_king_group}
use Rattle.frz_sets.specs.Sets.{radix_of}
use Rattle.frz_sets.specs.Views.{GroupLine}
use Rattle.frz_configurations.specs.Configurations.{has_kings, king_state, other_digits, others}
use Rattle.frz_configurations.specs.declared.joined.Joined.{Joined}

-- White's or Black's
abbrev pub of_colour : Colour → (white black : ℕ) → ℕ
of_colour White white black = white
of_colour Black white black = black

-- a king on this square is one of the group's states
pub record HasKing (g : GroupLine) (s : ℕ) : Type 0 where
  pub place : ℕ
  pub there : slice_get g.states place ≡ Some (King, s)

-- each group of kings of the colour has one on this square; in a set there is one such group
abbrev pub IsKingSquare : List GroupLine → Colour → ℕ → Type 0
IsKingSquare gs c s =
    (k : ℕ) (g : GroupLine) → slice_get gs k ≡ Some g → g.colour ≡ c → has_kings g ≡ true →
    HasKing g s

-- the groups have digits that give the number: those of the other men, with a rest, make the
-- configuration, and those of the kings have these squares
pub record IsJoined (gs : List GroupLine) (configuration white black : ℕ) (x : Joined) : Type 0 where
  pub ds : List ℕ
  pub fits : AreDigits (map radix_of gs) ds
  pub whole : configuration ≡
      x.rest * product (map radix_of (others gs)) + value (map radix_of (others gs)) (other_digits gs ds)
  pub count : x.count ≡ product (map radix_of gs)
  pub number : x.number ≡ value (map radix_of gs) ds
  pub kings : (c : Colour) → has_king_group gs c ≡ true →
      king_state c gs ds ≡ Some (King, of_colour c white black)
