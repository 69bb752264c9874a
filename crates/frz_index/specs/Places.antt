-- Where the men of a group stand: a combination of places among the group's states.
use Rattle.std.specs.Prelude.{ℕ, ◌≡◌, ◌<◌, ◌≤◌, Bool, false, Option, None, Some, List, length, slice_index}
use Rattle.std.specs.List.{slice_get}
use Rattle.frz_board.specs.declared.man.Colour.{Colour}
use Rattle.frz_board.specs.declared.man.Kind.{Kind}
use Rattle.frz_board.specs.Boards.{Board, has}
use Rattle.frz_combinations.specs.Combinations.{places_below}
use Rattle.frz_combinations.specs.Selections.{digit}
use Rattle.frz_squares.specs.SquareSets.{has_square}
use Rattle.frz_sets.specs.Views.{GroupLine}
use Rattle.frz_sets.specs.Sets.{has_state, is_state}

-- a man of this colour stands as the state says
abbrev pub stands : Board → Colour → Option (Kind × ℕ) → Bool
stands p c None = false
stands p c (Some state) = has p c state.0 state.1

-- the places among the first n states at which men of this colour stand, the last place first
abbrev pub places_among : Board → Colour → List (Kind × ℕ) → ℕ → List ℕ
places_among p c states n = places_below (λ k. stands p c (slice_get states k)) n

-- the places at which the group's men stand
abbrev pub places : Board → GroupLine → List ℕ
places p g = places_among p g.colour g.states (length g.states)

-- the group has neither too few men nor too many
pub record IsWithinCount (p : Board) (g : GroupLine) : Type 0 where
  pub least : g.least ≤ length (places p g)
  pub most : length (places p g) ≤ g.most

-- the group's digit: the number of its combination among those of its least to its most men
abbrev pub digit_of : Board → GroupLine → ℕ
digit_of p g = digit (length g.states) g.least (places p g)

-- the squares on which a man stands as the group's states say
abbrev pub AreSquares : Board → GroupLine → ℕ → Type 0
AreSquares p g squares =
    (s : ℕ) → s < 64 → has_square squares s ≡ is_state (slice_index p.cells s) s g

-- the squares on which a man stands as the states of some group say
abbrev pub AreCovered : Board → List GroupLine → ℕ → Type 0
AreCovered p gs squares =
    (s : ℕ) → s < 64 → has_square squares s ≡ has_state gs (slice_index p.cells s) s
