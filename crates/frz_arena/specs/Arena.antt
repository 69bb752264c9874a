-- A graph of the positions of two sides, which some moves leave.
use Rattle.std.specs.Prelude.{◌≡◌, ◌≢◌, ℕ, List, [], Some}
use Rattle.std.specs.List.{Contains, slice_get}
use Rattle.frz_board.specs.declared.man.Colour.{Colour}
use Rattle.frz_board.specs.Men.{other_of}
use Rattle.frz_arena.specs.declared.arm.Arm.{Arm}
use Rattle.frz_arena.specs.declared.arm.Next.TheVariants.{Inside}
use Rattle.frz_arena.specs.declared.class.Class.{Class}
use Rattle.frz_arena.specs.declared.class.Class.TheVariants.{Good, Bad}
use Rattle.frz_arena.specs.declared.node.Node.{Node}
use Rattle.frz_arena.specs.declared.node.Node.TheVariants.{Going}

-- an arena: what each position is, its legal moves (its arms), and what each value of an exit is
-- worth to a side, with its lag, the plies to mate that it gives
pub record Arena (M N V : Type 0) : Type 0 where
  pub node : N → Node
  pub arms : N → List (Arm M N V)
  pub class : V → Colour → Class
  pub lag : V → ℕ

-- the arm a is a legal move at p
abbrev pub IsArm : {M N V : Type 0} → Arena M N V → N → Arm M N V → Type 0
IsArm arena p a = Contains (arena.arms p) a

-- the arm with index k in the list leads to the position q
abbrev pub LeadsInside : {M N V : Type 0} → List (Arm M N V) → ℕ → N → Type 0
LeadsInside {M} {N} {V} arms k q =
    (a : Arm M N V) × (slice_get arms k ≡ Some a) × (a.next ≡ Inside q)

-- a position at which the game goes on has a move, and a value
-- that is good for a side is bad for the other
pub record IsLawful {M N V : Type 0} (arena : Arena M N V) : Type 0 where
  pub goes_on : (p : N) (mover : Colour) → arena.node p ≡ Going mover → arena.arms p ≢ []
  pub opposed : (v : V) (side : Colour) → arena.class v side ≡ Good →
      arena.class v (other_of side) ≡ Bad
