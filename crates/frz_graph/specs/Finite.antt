-- An arena over finitely many numbers, as a solver asks for it.
use Rattle.std.specs.Prelude.{◌≡◌, ◌≢◌, ◌≤◌, ◌<◌, ◌^◌, ℕ}
use Rattle.frz_board.specs.declared.man.Colour.{Colour}
use Rattle.frz_exits.specs.Value.{Value}
use Rattle.frz_arena.specs.declared.arm.Arm.{Arm}
use Rattle.frz_arena.specs.declared.arm.Next.TheVariants.{Inside, Outside}
use Rattle.frz_arena.specs.declared.node.Node.TheVariants.{Broken, Going}
use Rattle.frz_arena.specs.Arena.{Arena, IsArm, IsLawful}
use Rattle.frz_arena.specs.Names.{IsNumbered}
use Rattle.frz_exits.specs.Values.{class_of, lag_of}

-- at most 2^27 numbers, and all is broken from there on; only numbers at which the game goes on
-- have moves, which lead to numbers that are not broken or to values of small lags
pub record IsFinite {M : Type 0} (arena : Arena M ℕ Value) (size : ℕ) : Type 0 where
  pub lawful : IsLawful arena
  pub numbered : IsNumbered arena size
  pub going : (i : ℕ) (a : Arm M ℕ Value) → IsArm arena i a →
      (c : Colour) × (arena.node i ≡ Going c)
  pub inside : (i q : ℕ) (a : Arm M ℕ Value) → IsArm arena i a → a.next ≡ Inside q →
      (q < size) × (arena.node q ≢ Broken)
  pub lags : (i : ℕ) (v : Value) (a : Arm M ℕ Value) → IsArm arena i a → a.next ≡ Outside v →
      lag_of v ≤ 1000
  pub class : arena.class ≡ class_of
  pub lag : arena.lag ≡ lag_of
  pub few : size ≤ 2 ^ 27
