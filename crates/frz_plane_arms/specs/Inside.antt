-- Steps that stay in the set, and lead to given pairs of its configurations or elsewhere.
use Rattle.std.specs.Prelude.{ℕ, ◌≡◌, Bool, true, List, []}
use Rattle.std.specs.List.{slice_index_or}
use Rattle.frz_board.specs.Boards.{Board}
use Rattle.frz_board.specs.Moving.{IsStep, Step}
use Rattle.frz_fide.specs.Legal.{after, is_legal}
use Rattle.frz_sets.specs.Views.{RuleLines}
use Rattle.frz_exits.specs.Forbidding.{is_free}
use Rattle.frz_index.specs.Members.{Member, Num}
use Rattle.frz_configurations.specs.Configurations.{IsSplit}
use Rattle.frz_planes.specs.Planes.{has_pair}
use Rattle.frz_king_planes.specs.Kings.{with_kings}

-- a legal step of the side to move, free if only free ones count, stays in the set with the kings on
-- a and b: it leads to a number whose pair the planes have where `into` is true, and have not where
-- it is false
pub record LeadsInside (r : RuleLines) (p : Board) (only_free into : Bool)
    (planes : List (List ℕ)) (a b : ℕ) : Type 0 where
  pub step : Step
  pub is_step : IsStep step
  pub legal : is_legal (with_kings p a b) step ≡ true
  pub free : only_free ≡ true → is_free r p.turn (with_kings p a b) step ≡ true
  pub inside : Member r.groups (after (with_kings p a b) step)
  pub configuration : ℕ
  pub white : ℕ
  pub black : ℕ
  pub number : IsSplit r.groups (Num r.groups (after (with_kings p a b) step)) configuration white
      black
  pub there : has_pair (slice_index_or planes configuration []) white black ≡ into
