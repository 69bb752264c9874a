-- Where the plies of an opponent come from in a session.
use Rattle.std.specs.Prelude.{◌≡◌, ◌<◌, ℕ, Some, slice_get}
use Rattle.frz_board.specs.declared.man.Colour.{Colour}
use Rattle.frz_arena.specs.declared.arm.Arm.{Arm}
use Rattle.frz_arena.specs.declared.node.Node.TheVariants.{Going}
use Rattle.frz_arena.specs.Arena.{Arena}

-- what the input gives where the opponent is to move: the index of his move among the arms, after
-- some lines that are refused, or the reason why it stops; and what is left of the input
pub data Answer (S R : Type 0) : Type 0 where
  Reply : (refused place : ℕ) (left : S) → Answer S R
  Stop : (reason : R) (left : S) → Answer S R

-- each reply is the index of an arm of the position, and leaves less of the input
pub record IsInput {M N V S R : Type 0}
    (arena : Arena M N V) (size : S → ℕ) (read : N → S → Answer S R) : Type 0 where
  pub there : (p : N) (mover : Colour) (s t : S) (refused place : ℕ) → arena.node p ≡ Going mover →
      read p s ≡ Reply refused place t → (a : Arm M N V) × (slice_get (arena.arms p) place ≡ Some a)
  pub less : (p : N) (s t : S) (refused place : ℕ) → read p s ≡ Reply refused place t →
      size t < size s
