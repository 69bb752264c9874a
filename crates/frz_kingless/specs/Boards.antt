-- The board of a configuration: all men but the kings, with the turn state.
use Rattle.std.specs.Prelude.{ℕ, ◌+◌, ◌≡◌, ◌≢◌, ◌<◌, ◌↔◌, ◌&&◌, Bool, true, List, length, slice_index}
use Rattle.std.specs.List.{AllByRecursion}
use Rattle.frz_board.specs.declared.man.Colour.TheVariants.{White, Black}
use Rattle.frz_board.specs.Boards.{Board, CellsFit}
use Rattle.frz_sets.specs.Sets.{has_state, targets}
use Rattle.frz_sets.specs.Views.{GroupLine}
use Rattle.frz_index.specs.Kept.{is_known}
use Rattle.frz_index.specs.Members.{Broken, HasNumber}
use Rattle.frz_index.specs.Places.{IsWithinCount}
use Rattle.frz_index.specs.TurnStates.{turn_in, turn_number}
use Rattle.frz_configurations.specs.Configurations.{IsSplit, configuration_of, others}
use Rattle.frz_planes.specs.Planes.{has_pair}
use Rattle.frz_king_planes.specs.Kings.{king_cell}

-- the board is that of configuration c: each man has a state of a group without kings, each such
-- group has neither too few men nor too many, and the turn state is one of the set's
pub record IsBoardOf (gs : List GroupLine) (c : ℕ) (p : Board) : Type 0 where
  pub fits : CellsFit p.cells
  pub men : (s : ℕ) → s < 64 → slice_index p.cells s ≢ 0 →
      has_state (others gs) (slice_index p.cells s) s ≡ true
  pub counts : AllByRecursion (IsWithinCount p) (others gs)
  pub below : turn_number gs p.turn p.ep < 2 + length (targets gs)
  pub turn : turn_in (targets gs) (turn_number gs p.turn p.ep) ≡ (p.turn, p.ep)
  pub configuration : configuration_of gs p ≡ c

-- groups have White's king on a and Black's on b
abbrev pub are_known : List GroupLine → (a b : ℕ) → Bool
are_known gs a b = is_known gs (king_cell White) a && is_known gs (king_cell Black) b

-- each number of the configuration is broken
abbrev pub HasNoPosition : List GroupLine → ℕ → Type 0
HasNoPosition gs c = (i a b : ℕ) → IsSplit gs i c a b → Broken gs i

-- the plane has exactly the pairs at which a number of the configuration has a position
pub record AreLive (gs : List GroupLine) (c : ℕ) (plane : List ℕ) : Type 0 where
  pub there : (i a b : ℕ) → IsSplit gs i c a b →
      (has_pair plane a b ≡ true) ↔ ((p : Board) × HasNumber gs i p)
  pub only : (a b : ℕ) → a < 64 → b < 64 → has_pair plane a b ≡ true → (i : ℕ) × IsSplit gs i c a b
