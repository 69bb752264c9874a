-- The planes of the pairs at which steps leave the set.
use Rattle.std.proofs.Common.{◌≡◌, ℕ, ◌<◌, true, false, List}
use Rattle.frz_board.specs.Boards.{Board}
use Rattle.frz_fide.specs.Legal.{after}
use Rattle.frz_fide.specs.Valid.{IsValid}
use Rattle.frz_fide.proofs.Lemmas.{valid_after}
use Rattle.frz_sets.specs.declared.exit.Value.{Value}
use Rattle.frz_sets.specs.Views.{RuleLines}
use Rattle.frz_planes.specs.Planes.{IsPlaneOf, has_pair}
use Rattle.frz_king_planes.specs.Kings.{with_kings}
use Rattle.frz_plane_exits.specs.Adding.{Adds, IsPairOf, LeavesBy}
use Rattle.frz_plane_exits.specs.Leaving.{AreLeaving, Leaves, step_by}
use Rattle.frz_plane_exits.specs.declared.exit_plane.ExitPlane.{ExitPlane}
use Rattle.frz_plane_exits.specs.declared.mover.Mover.{Mover}
use Rattle.frz_plane_exits.proofs.Joining.{alike}

module _ (r : RuleLines) (p : Board) (mover : Mover) (plane : List ℕ) where
  -- the step leaves the set nowhere
  pub none_leave : IsPlaneOf plane (λ a b. false) →
      ((a b : ℕ) → a < 64 → b < 64 → Leaves r p mover a b → ⊥) → AreLeaving r p mover plane
  none_leave is none a b la lb = (
    λ h. absurd (let off = is a b la lb in cc),
    λ w. absurd (none a b la lb w),
  )

  module _ (are : AreLeaving r p mover plane) where
    -- the positions after it are valid
    pub valid_then : (a b : ℕ) → a < 64 → b < 64 → has_pair plane a b ≡ true →
        IsValid (after (with_kings p a b) (step_by mover p.turn a b))
    valid_then a b la lb h =
        let w = (are a b la lb).0 h in
        valid_after (with_kings p a b) (step_by mover p.turn a b) w.here.member.valid w.is_step.to
        w.legal

    -- what it is worth there
    pub worth_there : (value : Board → Value) (xs ys : List ExitPlane) →
        Adds xs ys (IsPairOf plane r value p mover) → Adds xs ys (LeavesBy r value p mover)
    worth_there value xs ys h =
        alike (IsPairOf plane r value p mover) (LeavesBy r value p mover) xs ys h
        (λ v f a b la lb k. record { leaves = (are a b la lb).0 k.there; has = k.has })
        (λ v f a b la lb k. record { there = (are a b la lb).1 k.leaves; has = k.has })
