-- The move that the code kept for a position asks for.
use Rattle.std.specs.Prelude.{◌≡◌, ◌<◌, ◌-◌, ◌==◌, ◌&&◌, ◌||◌, not, ℕ, Bool, true, false, List, Some, slice_get, ◌⊎◌}
use Rattle.std.specs.List.{Contains}
use Rattle.frz_board.specs.declared.man.Colour.{Colour}
use Rattle.frz_board.specs.Men.{same_colour}
use Rattle.frz_arena.specs.declared.arm.Arm.{Arm}
use Rattle.frz_arena.specs.Arena.{Arena}
use Rattle.frz_arena.specs.Codes.{is_win}
use Rattle.frz_arena.specs.LocalCodes.{arm_code}

-- x, the element with index i, passes the test, and none before it does
pub record IsFirst {A : Type 0} (test : A → Bool) (xs : List A) (i : ℕ) (x : A) : Type 0 where
  pub here : slice_get xs i ≡ Some x
  pub passes : test x ≡ true
  pub before : (j : ℕ) (y : A) → j < i → slice_get xs j ≡ Some y → test y ≡ false

-- the element that the kept code asks for: from a win the first whose code is one ply (2) less;
-- else the first with code 1, a hold, and where there is none, the first with code 0
abbrev pub IsFound : {A : Type 0} → (with_code : ℕ → A → Bool) → (won : Bool) → ℕ → List A → ℕ → A →
    Type 0
IsFound with_code true c xs i x = IsFirst (with_code (c - 2)) xs i x
IsFound {A} with_code false c xs i x =
    IsFirst (with_code 1) xs i x
    ⊎ (((y : A) → Contains xs y → with_code 1 y ≡ false) × IsFirst (with_code 0) xs i x)

-- an arm with the code, which is free where the side itself moves
abbrev pub is_candidate : {M N V : Type 0} → Arena M N V → Colour → (N → ℕ) → Colour → ℕ →
    Arm M N V → Bool
is_candidate arena side entry mover code a =
    (not (same_colour mover side) || a.free) && (arm_code arena side entry a == code)

-- a, the arm with index i, is the one that the code kept for p asks the mover for
abbrev pub IsChosen : {M N V : Type 0} → Arena M N V → Colour → (N → ℕ) → Colour → N → ℕ →
    Arm M N V → Type 0
IsChosen arena side entry mover p i a =
    IsFound (is_candidate arena side entry mover) (is_win (entry p)) (entry p) (arena.arms p) i a
