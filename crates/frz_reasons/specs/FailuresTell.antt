-- What a failure by the codes says of the moves at its number.
use Rattle.std.specs.Prelude.{◌≡◌, ◌≢◌, ◌≤◌, ◌+◌, ℕ, true, List, slice_index}
use Rattle.frz_board.specs.declared.man.Colour.{Colour}
use Rattle.frz_board.specs.Men.{other_of}
use Rattle.frz_board.specs.Moving.{Step}
use Rattle.frz_sets.specs.declared.exit.Value.{Value}
use Rattle.frz_arena.specs.declared.arm.Arm.{Arm}
use Rattle.frz_arena.specs.declared.node.Node.TheVariants.{Mate, Going}
use Rattle.frz_arena.specs.Arena.{Arena, IsArm}
use Rattle.frz_arena.specs.Codes.{is_failure}
use Rattle.frz_arena.specs.LocalCodes.{arm_code}
use Rattle.frz_arena.specs.Plies.{LeadsTo, FailsWithin, IsBadExit}

-- the code of the side behind a move
abbrev pub code_behind : Arena Step ℕ Value → Colour → (codes : List ℕ) → Arm Step ℕ Value → ℕ
code_behind arena side codes a = arm_code arena side (λ k. slice_index codes k) a

-- where the kept code is the local one and a failure, one of these holds
pub data FailsAt (arena : Arena Step ℕ Value) (side : Colour) (codes : List ℕ)
    (number : ℕ) : Type 0 where
  -- the side is mated, and fails at once
  mated : arena.node number ≡ Mate side → slice_index codes number ≡ 3 →
      FailsAt arena side codes number
  -- the side is to move, and fails at once, since none of its moves is free
  renounced : arena.node number ≡ Going side → slice_index codes number ≡ 3 →
      ((a : Arm Step ℕ Value) → IsArm arena number a → a.free ≢ true) →
      FailsAt arena side codes number
  -- the side is to move, and behind its free move a it fails one ply (2) sooner. It fails behind
  -- each free move, and no later than behind a
  moves : arena.node number ≡ Going side → (a : Arm Step ℕ Value) → IsArm arena number a →
      a.free ≡ true → code_behind arena side codes a + 2 ≡ slice_index codes number →
      ((b : Arm Step ℕ Value) → IsArm arena number b → b.free ≡ true →
      (is_failure (code_behind arena side codes b) ≡ true)
      × (code_behind arena side codes b ≤ code_behind arena side codes a)) →
      FailsAt arena side codes number
  -- the opponent is to move, and behind his move a the side fails one ply sooner. Behind no move of
  -- his does it fail sooner than behind a
  waits : arena.node number ≡ Going (other_of side) → (a : Arm Step ℕ Value) →
      IsArm arena number a → is_failure (code_behind arena side codes a) ≡ true →
      code_behind arena side codes a + 2 ≡ slice_index codes number →
      ((b : Arm Step ℕ Value) → IsArm arena number b →
      is_failure (code_behind arena side codes b) ≡ true →
      code_behind arena side codes a ≤ code_behind arena side codes b) →
      FailsAt arena side codes number

-- the side fails where the move leads, within so many plies: at a number, or at once by an exit
-- that is bad for it
abbrev pub FailsBehind : Arena Step ℕ Value → Colour → ℕ → Arm Step ℕ Value → Type 0
FailsBehind arena side plies a =
    LeadsTo (FailsWithin arena side plies) (IsBadExit arena side) a.next
