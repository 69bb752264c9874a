-- Which positions a set has, and their numbers.
use Rattle.std.specs.Prelude.{ℕ, ◌≡◌, ◌≢◌, ◌<◌, true, List, ◌∷◌, map, slice_index}
use Rattle.std.specs.List.{AllByRecursion}
use Rattle.frz_board.specs.Boards.{Board, CellsFit}
use Rattle.frz_board.specs.Shapes.{has_few_men, has_kings, has_pawns_inside}
use Rattle.frz_fide.specs.Valid.{IsValid}
use Rattle.frz_combinations.specs.MixedRadix.{value}
use Rattle.frz_sets.specs.Views.{GroupLine}
use Rattle.frz_sets.specs.Sets.{has_state, radices}
use Rattle.frz_index.specs.Places.{IsWithinCount, digit_of}
use Rattle.frz_index.specs.TurnStates.{turn_number}

-- what a valid position is apart from its target and from attacks: each side has one king and at most
-- 16 men, and no pawn stands on rank 1 or 8
pub record HasShape (p : Board) : Type 0 where
  pub fits : CellsFit p.cells
  pub kings : has_kings p ≡ true
  pub pawns : has_pawns_inside p ≡ true
  pub men : has_few_men p ≡ true

-- a position of the set: it is valid, each man has a state of a group of its colour, and each group
-- has neither too few men nor too many
pub record Member (gs : List GroupLine) (p : Board) : Type 0 where
  pub valid : IsValid p
  pub men : (s : ℕ) → s < 64 → slice_index p.cells s ≢ 0 →
      has_state gs (slice_index p.cells s) s ≡ true
  pub counts : AllByRecursion (IsWithinCount p) gs

-- a position's number: the turn state, then each group's digit, in mixed radix
abbrev pub Num : List GroupLine → Board → ℕ
Num gs p = value (radices gs) (turn_number gs p.turn p.ep ∷ map (digit_of p) gs)

-- the position of the set with this number
pub record HasNumber (gs : List GroupLine) (i : ℕ) (p : Board) : Type 0 where
  pub member : Member gs p
  pub number : Num gs p ≡ i

-- the number of no position of the set
abbrev pub Broken : List GroupLine → ℕ → Type 0
Broken gs i = (p : Board) → Member gs p → Num gs p ≢ i
