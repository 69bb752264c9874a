-- The moves of a number as a player by codes sees them.
use Rattle.std.specs.Prelude.{◌≡◌, ◌≤◌, ◌+◌, ◌||◌, ◌⊎◌, not, ℕ, Bool, true, List, [], ◌∷◌}
use Rattle.frz_board.specs.Moving.{Step}
use Rattle.frz_sets.specs.declared.exit.Value.{Value}
use Rattle.frz_arena.specs.declared.arm.Arm.{Arm}
use Rattle.frz_arena.specs.declared.choice.Choice.{Choice}
use Rattle.frz_arena.specs.Codes.{is_win}

-- each move with the code that was read for it. The side itself may take free moves only, its
-- opponent any move
abbrev pub choices_by : (own : Bool) → List (Arm Step ℕ Value) → List ℕ → List Choice
choices_by own [] cs = []
choices_by own (a ∷ arms) [] = []
choices_by own (a ∷ arms) (c ∷ cs) =
    record { allowed = not own || a.free; code = c } ∷ choices_by own arms cs

-- the code behind the move that a kept code asks for: from a win,
-- a win with one ply less; from a hold, a hold or 0
abbrev pub IsNextCode : (kept code : ℕ) → Type 0
IsNextCode kept code =
    ((is_win kept ≡ true) × (is_win code ≡ true) × (code + 2 ≡ kept)) ⊎ ((kept ≡ 1) × (code ≤ 1))
