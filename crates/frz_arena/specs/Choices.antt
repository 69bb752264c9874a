-- The moves as a player who goes by codes sees them.
use Rattle.std.specs.Prelude.{◌==◌, ◌&&◌, ◌||◌, not, ℕ, Bool}
use Rattle.frz_board.specs.declared.man.Colour.{Colour}
use Rattle.frz_board.specs.Men.{same_colour}
use Rattle.frz_arena.specs.declared.arm.Arm.{Arm}
use Rattle.frz_arena.specs.Arena.{Arena}
use Rattle.frz_arena.specs.LocalCodes.{arm_code}
use Rattle.frz_arena.specs.declared.choice.Choice.{Choice}

-- the choice is allowed, and has this code
abbrev pub has_code : ℕ → Choice → Bool
has_code code x = x.allowed && (x.code == code)

-- an arm as its mover sees it: the side itself may play its free moves only, its opponent all
abbrev pub choice_of : {M N V : Type 0} → Arena M N V → Colour → (N → ℕ) → Colour → Arm M N V →
    Choice
choice_of arena side entry mover a =
    record { allowed = not (same_colour mover side) || a.free; code = arm_code arena side entry a }
