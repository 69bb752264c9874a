-- Configurations: where all men but the kings stand, with the turn state. A number of a set is a
-- configuration with the squares of both kings.
use Rattle.std.specs.Prelude.{ℕ, ◌+◌, ◌≡◌, Bool, not, ◌&&◌, Option, None, Some, List, [], ◌∷◌, length, map, filter, if◌then◌else◌}
use Rattle.std.specs.List.{list_any, slice_get}
use Rattle.frz_board.specs.declared.man.Colour.{Colour}
use Rattle.frz_board.specs.declared.man.Colour.TheVariants.{White, Black}
use Rattle.frz_board.specs.declared.man.Kind.{Kind}
use Rattle.frz_board.specs.declared.man.Kind.TheVariants.{King}
use Rattle.frz_board.specs.Boards.{Board}
use Rattle.frz_board.specs.Men.{same_colour}
use Rattle.frz_combinations.specs.MixedRadix.{AreDigits, product, value}
use Rattle.frz_sets.specs.Groups.{is_king}
use Rattle.frz_sets.specs.Sets.{radices, radix_of, targets}
use Rattle.frz_sets.specs.Views.{GroupLine}
use Rattle.frz_index.specs.Places.{digit_of}
use Rattle.frz_index.specs.TurnStates.{turn_number}

-- the group has kings; in a set all its men are kings then
abbrev pub has_kings : GroupLine → Bool
has_kings g = list_any is_king g.states

-- the groups of the other men
abbrev pub others : List GroupLine → List GroupLine
others gs = filter (λ g. not (has_kings g)) gs

-- the factors of the count of configurations: the turn states, and then the choices of each group
-- of other men
abbrev pub other_radices : List GroupLine → List ℕ
other_radices gs = (2 + length (targets gs)) ∷ map radix_of (others gs)

-- how many configurations the set has
abbrev pub configuration_count : List GroupLine → ℕ
configuration_count gs = product (other_radices gs)

-- a position's configuration: the turn state, then the digit of each group of other men
abbrev pub configuration_of : List GroupLine → Board → ℕ
configuration_of gs p =
    value (other_radices gs) (turn_number gs p.turn p.ep ∷ map (digit_of p) (others gs))

-- of the digits of all groups those of the other men
abbrev pub other_digits : List GroupLine → List ℕ → List ℕ
other_digits [] ds = []
other_digits (g ∷ gs) [] = []
other_digits (g ∷ gs) (d ∷ ds) =
    if has_kings g then other_digits gs ds else d ∷ other_digits gs ds

-- the state that the digits give the king of the colour
abbrev pub king_state : Colour → List GroupLine → List ℕ → Option (Kind × ℕ)
king_state c [] ds = None
king_state c (g ∷ gs) [] = None
king_state c (g ∷ gs) (d ∷ ds) =
    if same_colour g.colour c && has_kings g then slice_get g.states d else king_state c gs ds

-- i is the number of configuration c with the white king on a and the black king on b: i has
-- digits, those of the other men give c, and those of the kings their squares
pub record IsSplit (gs : List GroupLine) (i c a b : ℕ) : Type 0 where
  pub turn : ℕ
  pub ds : List ℕ
  pub fits : AreDigits (radices gs) (turn ∷ ds)
  pub number : i ≡ value (radices gs) (turn ∷ ds)
  pub configuration : c ≡ value (other_radices gs) (turn ∷ other_digits gs ds)
  pub white : king_state White gs ds ≡ Some (King, a)
  pub black : king_state Black gs ds ≡ Some (King, b)
