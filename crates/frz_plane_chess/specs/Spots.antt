-- Where the numbers of a set stand: in their configurations, at the squares of their kings.
use Rattle.std.specs.Prelude.{ℕ, Option, None, Some, List, [], ◌∷◌}
use Rattle.frz_board.specs.declared.man.Colour.TheVariants.{White, Black}
use Rattle.frz_board.specs.declared.man.Kind.{Kind}
use Rattle.frz_combinations.specs.MixedRadix.{digits, value}
use Rattle.frz_sets.specs.Sets.{radices, size_of}
use Rattle.frz_sets.specs.Views.{GroupLine}
use Rattle.frz_configurations.specs.Configurations.{configuration_count, king_state, other_digits, other_radices}
use Rattle.frz_plane_game.specs.Spots.{Spot, Spots}

-- the square of a state
abbrev pub square_of : Option (Kind × ℕ) → ℕ
square_of None = 0
square_of (Some state) = state.1

-- the spot that a turn state and the digits of the groups give
abbrev pub spot_by : List GroupLine → List ℕ → Spot
spot_by gs [] = record { configuration = 0; white = 0; black = 0 }
spot_by gs (turn ∷ ds) = record {
  configuration = value (other_radices gs) (turn ∷ other_digits gs ds);
  white = square_of (king_state White gs ds);
  black = square_of (king_state Black gs ds);
}

-- the spot of a number
unfoldable pub spot_of : List GroupLine → ℕ → Spot
spot_of gs i = spot_by gs (digits (radices gs) i)

-- the spots of the numbers of the set
abbrev pub spots_of : List GroupLine → Spots
spots_of gs = record {
  numbers = size_of gs;
  configurations = configuration_count gs;
  at = spot_of gs;
}
