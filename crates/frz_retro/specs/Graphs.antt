-- The moves of a game over numbers, forwards and backwards.
use Rattle.std.specs.Prelude.{◌≡◌, ℕ, Option, Some, None}
use Rattle.frz_board.specs.declared.man.Colour.{Colour}
use Rattle.frz_board.specs.Moving.{Step}
use Rattle.frz_sets.specs.declared.exit.Value.{Value}
use Rattle.frz_arena.specs.declared.arm.Arm as arms
use Rattle.frz_arena.specs.declared.arm.Next as nexts
use Rattle.frz_arena.specs.declared.arm.Next.TheVariants.{Inside}
use Rattle.frz_arena.specs.declared.node.Node.{Node}
use Rattle.frz_arena.specs.declared.node.Node.TheVariants.{Broken, Mate, Stalemate, Going}
use Rattle.frz_arena.specs.Arena.{Arena, IsArm, LeadsInside}

-- a move of a number, and where it leads
abbrev pub Arm : Type 0
Arm = arms.Arm Step ℕ Value

abbrev pub Next : Type 0
Next = nexts.Next ℕ Value

-- the move m of the number i leads to the number q
abbrev pub IsMoveTo : Arena Step ℕ Value → ℕ → Step → ℕ → Type 0
IsMoveTo arena i m q = (a : Arm) × IsArm arena i a × (a.mv ≡ m) × (a.next ≡ Inside q)

-- no two moves of one number lead to the same number
abbrev pub HasDifferentArms : Arena Step ℕ Value → Type 0
HasDifferentArms arena = (i k l q : ℕ) →
    LeadsInside (arena.arms i) k q → LeadsInside (arena.arms i) l q → k ≡ l

-- who is to move at a number that is not broken
abbrev pub mover_of : Node → Option Colour
mover_of Broken = None
mover_of (Mate mover) = Some mover
mover_of (Stalemate mover) = Some mover
mover_of (Going mover) = Some mover
