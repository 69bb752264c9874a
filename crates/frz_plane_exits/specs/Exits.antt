-- Steps that leave the set: at which pairs of kings' squares, and to which values.
use Rattle.std.specs.Prelude.{ℕ, ◌≡◌, ◌<◌, Bool, true, List, Some}
use Rattle.std.specs.List.{slice_get}
use Rattle.frz_board.specs.Boards.{Board}
use Rattle.frz_board.specs.Moving.{IsStep, Step}
use Rattle.frz_fide.specs.Legal.{after, is_legal}
use Rattle.frz_sets.specs.declared.exit.Value.{Value}
use Rattle.frz_sets.specs.Views.{GroupLine, RuleLines}
use Rattle.frz_index.specs.Members.{Member}
use Rattle.frz_exits.specs.Forbidding.{is_free}
use Rattle.frz_planes.specs.Planes.{has_pair}
use Rattle.frz_king_planes.specs.Kings.{with_kings}
use Rattle.frz_kingless.specs.Boards.{AreLive, IsBoardOf}
use Rattle.frz_plane_arms.specs.Arms.{MakesMember}
use Rattle.frz_plane_exits.specs.declared.exit_plane.ExitPlane.{ExitPlane}

-- a step of the side to move, legal with the kings on a and b, that leaves the set to a position of
-- this value, and is free or not
pub record LeavesWith (r : RuleLines) (value : Board → Value) (p : Board) (free : Bool) (v : Value)
    (a b : ℕ) : Type 0 where
  pub step : Step
  pub is_step : IsStep step
  pub legal : is_legal (with_kings p a b) step ≡ true
  pub outside : Member r.groups (after (with_kings p a b) step) → ⊥
  pub worth : value (after (with_kings p a b) step) ≡ v
  pub freedom : is_free r p.turn (with_kings p a b) step ≡ free

-- one of the planes, of this value and this freedom, has the pair
pub record HasExit (exits : List ExitPlane) (v : Value) (free : Bool) (a b : ℕ) : Type 0 where
  pub place : ℕ
  pub exit : ExitPlane
  pub there : slice_get exits place ≡ Some exit
  pub worth : exit.value ≡ v
  pub freedom : exit.free ≡ free
  pub pair : has_pair exit.plane a b ≡ true

-- the planes have exactly the pairs on which the kings make a position of the set in which a step
-- leaves the set, with the value and the freedom of the step
pub record AreExits (r : RuleLines) (value : Board → Value) (p : Board) (exits : List ExitPlane)
    : Type 0 where
  pub each : (v : Value) (free : Bool) (a b : ℕ) → a < 64 → b < 64 → HasExit exits v free a b →
      MakesMember r.groups p a b × LeavesWith r value p free v a b
  pub all : (v : Value) (free : Bool) (a b : ℕ) → MakesMember r.groups p a b →
      LeavesWith r value p free v a b → HasExit exits v free a b

-- the board is that of a configuration, and the plane has the live pairs of that
pub record HasLivePairs (gs : List GroupLine) (p : Board) (live : List ℕ) : Type 0 where
  pub configuration : ℕ
  pub board : IsBoardOf gs configuration p
  pub are_live : AreLive gs configuration live
