-- Arenas whose moves stay among positions that are not broken, and in which the sides move in turn.
use Rattle.std.specs.Prelude.{◌≡◌, ⊤}
use Rattle.std.specs.List.{Contains}
use Rattle.frz_board.specs.declared.man.Colour.{Colour}
use Rattle.frz_board.specs.Men.{other_of}
use Rattle.frz_arena.specs.declared.arm.Arm.{Arm}
use Rattle.frz_arena.specs.declared.arm.Next.TheVariants.{Inside}
use Rattle.frz_arena.specs.declared.node.Node.TheVariants.{Broken, Going}
use Rattle.frz_arena.specs.Arena.{Arena}
use Rattle.frz_arena.specs.Plies.{LeadsTo}

-- no arm leads to a broken position
pub record IsClosed {M N V : Type 0} (arena : Arena M N V) : Type 0 where
  pub unbroken : (p : N) (a : Arm M N V) → Contains (arena.arms p) a →
      LeadsTo (λ q. arena.node q ≡ Broken → ⊥) (λ v. ⊤) a.next

-- the sides move in turn: where an arm leads to a position that goes on, the other side is to move
-- there
pub record Alternates {M N V : Type 0} (arena : Arena M N V) : Type 0 where
  pub turns : (p : N) (a : Arm M N V) (mover turn : Colour) (q : N) →
      Contains (arena.arms p) a → a.next ≡ Inside q → arena.node p ≡ Going mover →
      arena.node q ≡ Going turn →
      turn ≡ other_of mover
