-- Steps of men that are no kings, from a board to configurations.
use Rattle.std.specs.Prelude.{ℕ, ◌≡◌, ◌<◌, Bool, true, List, Some, []}
use Rattle.std.specs.List.{slice_get, slice_index_or}
use Rattle.frz_board.specs.Boards.{Board, holds}
use Rattle.frz_board.specs.Moving.{IsStep, Step}
use Rattle.frz_fide.specs.Legal.{after, can_go, is_legal}
use Rattle.frz_sets.specs.Views.{GroupLine, RuleLines}
use Rattle.frz_exits.specs.Forbidding.{is_free}
use Rattle.frz_planes.specs.Planes.{has_pair}
use Rattle.frz_configurations.specs.Configurations.{configuration_count}
use Rattle.frz_king_planes.specs.Kings.{with_kings}
use Rattle.frz_kingless.specs.Boards.{AreLive, IsBoardOf}
use Rattle.frz_plane_arms.specs.Arms.{MakesMember}
use Rattle.frz_plane_arms.specs.declared.men.ManArm.{ManArm}

-- a man of the board can go the step, its configuration is that of the board after it, and the rules
-- leave it free or not
pub record IsArm (r : RuleLines) (p : Board) (arm : ManArm) : Type 0 where
  pub can : can_go p arm.step ≡ true
  pub free : arm.free ≡ is_free r p.turn p arm.step
  pub board : IsBoardOf r.groups arm.target (after p arm.step)
  pub inside : arm.target < configuration_count r.groups

-- one of the arms has this step
pub record HasArm (arms : List ManArm) (m : Step) : Type 0 where
  pub place : ℕ
  pub arm : ManArm
  pub there : slice_get arms place ≡ Some arm
  pub step : arm.step ≡ m

-- the arms are such steps, and they are all after which kings make a position of the set
pub record AreArms (r : RuleLines) (p : Board) (arms : List ManArm) : Type 0 where
  pub each : (k : ℕ) (arm : ManArm) → slice_get arms k ≡ Some arm → IsArm r p arm
  pub all : (m : Step) (a b : ℕ) → IsStep m → can_go p m ≡ true →
      MakesMember r.groups (after p m) a b → HasArm arms m

-- for each configuration the plane of its live pairs
abbrev pub AreAllLive : List GroupLine → List (List ℕ) → Type 0
AreAllLive gs lives =
    (d : ℕ) → d < configuration_count gs → AreLive gs d (slice_index_or lives d [])

-- a legal step of a man, free if only free ones count, leads to a pair that the plane of its
-- configuration has, or has not
pub record ManLeads (r : RuleLines) (only_free : Bool) (p : Board) (planes : List (List ℕ))
    (into : Bool) (a b : ℕ) : Type 0 where
  pub step : Step
  pub is_step : IsStep step
  pub own : holds p p.turn step.from ≡ true
  pub legal : is_legal (with_kings p a b) step ≡ true
  pub free : only_free ≡ true → is_free r p.turn (with_kings p a b) step ≡ true
  pub target : ℕ
  pub board : IsBoardOf r.groups target (after p step)
  pub there : has_pair (slice_index_or planes target []) a b ≡ into
