-- How a way ends, and which ends are open to a way from a win or from a hold.
use Rattle.std.specs.Prelude.{◌≡◌, ℕ, ◌⊎◌, ⊤}
use Rattle.frz_board.specs.declared.man.Colour.{Colour}
use Rattle.frz_board.specs.Men.{other_of}
use Rattle.frz_arena.specs.declared.class.Class.TheVariants.{Good, Safe}
use Rattle.frz_arena.specs.Arena.{Arena}

-- how a way ends: at a position whose kept code is not its local code (given); at a start whose
-- code is a failure; where the mover is mated, or stalemated; by a ply to an exit; by the cut of a
-- line at a hold; or where the input stops
pub data End (N V R : Type 0) : Type 0 where
  Wrong : (position : N) (kept given : ℕ) → End N V R
  NoBound : End N V R
  Mated : (mover : Colour) → End N V R
  Stalemated : (mover : Colour) → End N V R
  Exit : (value : V) → End N V R
  Cut : End N V R
  Stopped : (reason : R) → End N V R

-- the ends of a way from a win: the opponent is mated, or the exit wins for the side, unless a code
-- is wrong or the input stops
abbrev pub EndsWon : {M N V R : Type 0} → Arena M N V → Colour → End N V R → Type 0
EndsWon arena side (Wrong p kept given) = ⊤
EndsWon arena side NoBound = ⊥
EndsWon arena side (Mated mover) = mover ≡ other_of side
EndsWon arena side (Stalemated mover) = ⊥
EndsWon arena side (Exit v) = arena.class v side ≡ Good
EndsWon arena side Cut = ⊥
EndsWon arena side (Stopped reason) = ⊤

-- the ends of a way from a hold: the side is not mated, and no exit is bad for it
abbrev pub EndsHeld : {M N V R : Type 0} → Arena M N V → Colour → End N V R → Type 0
EndsHeld arena side (Wrong p kept given) = ⊤
EndsHeld arena side NoBound = ⊥
EndsHeld arena side (Mated mover) = mover ≡ other_of side
EndsHeld arena side (Stalemated mover) = ⊤
EndsHeld arena side (Exit v) = (arena.class v side ≡ Good) ⊎ (arena.class v side ≡ Safe)
EndsHeld arena side Cut = ⊤
EndsHeld arena side (Stopped reason) = ⊤

-- the ends of a line from a hold: no one is mated, and an exit is a hold for the side
abbrev pub EndsDrawn : {M N V R : Type 0} → Arena M N V → Colour → End N V R → Type 0
EndsDrawn arena side (Wrong p kept given) = ⊤
EndsDrawn arena side NoBound = ⊥
EndsDrawn arena side (Mated mover) = ⊥
EndsDrawn arena side (Stalemated mover) = ⊤
EndsDrawn arena side (Exit v) = arena.class v side ≡ Safe
EndsDrawn arena side Cut = ⊤
EndsDrawn arena side (Stopped reason) = ⊥
