-- How planes of exits are gathered.
use Rattle.std.specs.Prelude.{ℕ, ◌≡◌, ◌<◌, ◌⊎◌, Bool, true, List}
use Rattle.frz_board.specs.Boards.{Board, holds}
use Rattle.frz_board.specs.Moving.{Step}
use Rattle.frz_fide.specs.Legal.{after}
use Rattle.frz_sets.specs.declared.exit.Value.{Value}
use Rattle.frz_sets.specs.Views.{RuleLines}
use Rattle.frz_exits.specs.Forbidding.{is_free}
use Rattle.frz_planes.specs.Planes.{has_pair}
use Rattle.frz_king_planes.specs.Kings.{with_kings}
use Rattle.frz_plane_exits.specs.Exits.{HasExit}
use Rattle.frz_plane_exits.specs.Leaving.{Leaves, step_by}
use Rattle.frz_plane_exits.specs.declared.exit_plane.ExitPlane.{ExitPlane}
use Rattle.frz_plane_exits.specs.declared.mover.Mover.{Mover}
use Rattle.frz_plane_exits.specs.declared.mover.Mover.TheVariants.{King, Man}

-- pairs of exits, by the value and the freedom of a step there
abbrev pub Pairs : Type 1
Pairs = Value → Bool → (a b : ℕ) → Type 0

-- the planes got these pairs, and no others
pub record Adds (old new : List ExitPlane) (more : Pairs) : Type 0 where
  pub kept : (v : Value) (free : Bool) (a b : ℕ) → a < 64 → b < 64 → HasExit old v free a b →
      HasExit new v free a b
  pub added : (v : Value) (free : Bool) (a b : ℕ) → a < 64 → b < 64 → more v free a b →
      HasExit new v free a b
  pub only : (v : Value) (free : Bool) (a b : ℕ) → a < 64 → b < 64 → HasExit new v free a b →
      HasExit old v free a b ⊎ more v free a b

-- this pair alone
pub record IsPair (worth : Value) (freedom : Bool) (white black : ℕ) (v : Value) (free : Bool)
    (a b : ℕ) : Type 0 where
  pub same_worth : worth ≡ v
  pub same_freedom : freedom ≡ free
  pub same_white : white ≡ a
  pub same_black : black ≡ b

-- the mover's step there has this value and this freedom
pub record HasWorth (r : RuleLines) (value : Board → Value) (p : Board) (mover : Mover) (v : Value)
    (free : Bool) (a b : ℕ) : Type 0 where
  pub worth : value (after (with_kings p a b) (step_by mover p.turn a b)) ≡ v
  pub freedom : is_free r p.turn (with_kings p a b) (step_by mover p.turn a b) ≡ free

-- a pair of the plane
pub record IsPairOf (plane : List ℕ) (r : RuleLines) (value : Board → Value) (p : Board)
    (mover : Mover) (v : Value) (free : Bool) (a b : ℕ) : Type 0 where
  pub there : has_pair plane a b ≡ true
  pub has : HasWorth r value p mover v free a b

-- the mover's step leaves the set, with this value and this freedom
pub record LeavesBy (r : RuleLines) (value : Board → Value) (p : Board) (mover : Mover) (v : Value)
    (free : Bool) (a b : ℕ) : Type 0 where
  pub leaves : Leaves r p mover a b
  pub has : HasWorth r value p mover v free a b

-- a man's step does
pub record ManLeaves (r : RuleLines) (value : Board → Value) (p : Board) (v : Value) (free : Bool)
    (a b : ℕ) : Type 0 where
  pub step : Step
  pub own : holds p p.turn step.from ≡ true
  pub leaves : LeavesBy r value p (Man step) v free a b

-- a step of the king of the side to move does
pub record KingLeaves (r : RuleLines) (value : Board → Value) (p : Board) (v : Value) (free : Bool)
    (a b : ℕ) : Type 0 where
  pub square : ℕ
  pub on_board : square < 64
  pub leaves : LeavesBy r value p (King square) v free a b
