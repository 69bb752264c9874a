-- The place of a move in the list of a number, found by its code.
use Rattle.std.specs.Prelude.{◌≡◌, ◌==◌, ◌&&◌, ◌||◌, not, ℕ, Bool, true, List, Some, slice_get, slice_index}
use Rattle.frz_board.specs.Moving.{Step}
use Rattle.frz_sets.specs.declared.exit.Value.{Value}
use Rattle.frz_arena.specs.declared.arm.Arm.{Arm}

-- a move may be played, where the side itself moves (own) only if it is free, and it has this code
abbrev pub is_one : (own free : Bool) → (code found : ℕ) → Bool
is_one own free code found = (not own || free) && (found == code)

-- the move at place i is such a one; cs has the codes of the moves
pub record IsOneAt (own : Bool) (code : ℕ) (arms : List (Arm Step ℕ Value)) (cs : List ℕ)
    (i : ℕ) : Type 0 where
  pub arm : Arm Step ℕ Value
  pub here : slice_get arms i ≡ Some arm
  pub passes : is_one own arm.free code (slice_index cs i) ≡ true
