-- The pairs of squares on which the kings make a valid position.
use Rattle.std.specs.Prelude.{ℕ, ◌≡◌, ◌<◌, ◌↔◌, ◌&&◌, Bool, true, List}
use Rattle.frz_board.specs.Boards.{Board}
use Rattle.frz_board.specs.EnPassant.{has_target_in_place}
use Rattle.frz_board.specs.Shapes.{has_few_men, has_kings, has_pawns_inside}
use Rattle.frz_fide.specs.Valid.{IsValid}
use Rattle.frz_planes.specs.Planes.{has_pair}
use Rattle.frz_king_planes.specs.Kings.{are_free, with_kings}

-- the conditions on a position that need no look at attacks
abbrev pub has_shape : Board → Bool
has_shape p = (has_kings p && has_pawns_inside p) && (has_few_men p && has_target_in_place p)

-- the plane has exactly the pairs of free squares on which the kings make a valid position
pub record AreValid (p : Board) (plane : List ℕ) : Type 0 where
  pub valid : (a b : ℕ) → a < 64 → b < 64 → are_free p a b ≡ true →
      (has_pair plane a b ≡ true) ↔ IsValid (with_kings p a b)
  pub free : (a b : ℕ) → a < 64 → b < 64 → has_pair plane a b ≡ true → are_free p a b ≡ true
