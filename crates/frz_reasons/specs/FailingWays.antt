-- The way on which a side fails by its codes: the opponent spoils as soon as he can, and the side
-- lasts as long as it can.
use Rattle.std.specs.Prelude.{◌≡◌, ◌≢◌, ◌-◌, ℕ, true, List, [], ◌∷◌, slice_index}
use Rattle.frz_board.specs.declared.man.Colour.{Colour}
use Rattle.frz_board.specs.Moving.{Step}
use Rattle.frz_sets.specs.declared.exit.Value.{Value}
use Rattle.frz_arena.specs.declared.arm.Arm.{Arm}
use Rattle.frz_arena.specs.declared.arm.Next.TheVariants.{Inside, Outside}
use Rattle.frz_arena.specs.declared.node.Node.TheVariants.{Mate, Going}
use Rattle.frz_arena.specs.Arena.{Arena, IsArm}
use Rattle.frz_arena.specs.Chosen.{IsFirst, is_candidate}
use Rattle.frz_reasons.specs.declared.reason.Reason.{Reason}
use Rattle.frz_reasons.specs.declared.reason.Reason.TheVariants.{Wrong, Mated, Renounced, Left}
use Rattle.frz_reasons.specs.LocalEntries.{Agrees, Differs, wrong_at}

-- the arm a is played at the number. Of those that its mover may play, which are the side's free
-- moves or any move of its opponent, it is the first after which the side fails one ply (2) sooner
-- by its codes. So no move of the opponent spoils sooner, and no free move of the side lasts longer
pub record IsPlayedAt (arena : Arena Step ℕ Value) (side : Colour) (codes : List ℕ) (number : ℕ)
    (a : Arm Step ℕ Value) : Type 0 where
  pub agrees : Agrees arena side codes number
  pub mover : Colour
  pub turn : arena.node number ≡ Going mover
  pub place : ℕ
  pub first : IsFirst
      (is_candidate arena side (λ k. slice_index codes k) mover (slice_index codes number - 2))
      (arena.arms number) place a

-- the moves from the number on, and the reason at their end
pub data FailsFrom (arena : Arena Step ℕ Value) (side : Colour) (codes : List ℕ) :
    (number : ℕ) → List (Arm Step ℕ Value) → Reason → Type 0 where
  -- the kept code is not the local one
  wrong : {number : ℕ} → Differs arena side codes number →
      FailsFrom arena side codes number [] (Wrong (wrong_at arena side codes number))
  -- the side is mated
  mated : {number : ℕ} → Agrees arena side codes number → arena.node number ≡ Mate side →
      FailsFrom arena side codes number [] Mated
  -- the side is to move, and renounces each of its moves
  renounced : {number : ℕ} → Agrees arena side codes number → arena.node number ≡ Going side →
      ((a : Arm Step ℕ Value) → IsArm arena number a → a.free ≢ true) →
      FailsFrom arena side codes number [] Renounced
  -- a move is played that leaves the set, to a position of this value
  leaves : {number : ℕ} (a : Arm Step ℕ Value) (value : Value) →
      IsPlayedAt arena side codes number a → a.next ≡ Outside value →
      FailsFrom arena side codes number (a ∷ []) (Left number a.mv value)
  -- a move is played that leads to the next number, and the way goes on from there
  goes_on : {number : ℕ} {arms : List (Arm Step ℕ Value)} {reason : Reason}
      (a : Arm Step ℕ Value) (next : ℕ) →
      IsPlayedAt arena side codes number a → a.next ≡ Inside next →
      FailsFrom arena side codes next arms reason →
      FailsFrom arena side codes number (a ∷ arms) reason
