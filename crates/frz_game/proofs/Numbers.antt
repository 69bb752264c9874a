-- The moves of a number.
use Rattle.std.proofs.Common.{◌≡◌, ℕ, Bool, refl}
use Rattle.frz_board.specs.Moving.{Step}
use Rattle.frz_sets.specs.declared.exit.Value.{Value}
use Rattle.frz_arena.specs.declared.arm.Arm.{Arm}
use Rattle.frz_arena.specs.declared.arm.Next.{Next}

abbrev pub arm_with : Step → Bool → Next ℕ Value → Arm Step ℕ Value
arm_with m free next = record { mv = m; free = free; next = next }

pub same_arm : (m : Step) (a b : Bool) (x y : Next ℕ Value) → a ≡ b → x ≡ y →
    arm_with m a x ≡ arm_with m b y
same_arm m a b x y e f = rw (e, f) refl
