-- What a position cannot be at once, and the two sides.
use Rattle.std.proofs.Common.{◌≡◌}
use Rattle.frz_board.proofs.Lemmas.{other_differs}
use Rattle.frz_board.specs.declared.man.Colour.{Colour}
use Rattle.frz_arena.specs.declared.class.Class.{Class}
use Rattle.frz_arena.specs.declared.class.Class.TheVariants.{Good, Bad}
use Rattle.frz_board.specs.Men.{other_of}
use Rattle.frz_arena.specs.declared.node.Node.{Node}
use Rattle.frz_arena.specs.declared.node.Node.TheVariants.{Mate, Going}

pub mate_or_going : {x : Node} (a b : Colour) → x ≡ Mate a → x ≡ Going b → ⊥
mate_or_going a b h k = cc

pub one_mate : {x : Node} (side : Colour) → x ≡ Mate side → x ≡ Mate (other_of side) → ⊥
one_mate side h k = let e : other_of side ≡ side = cc in other_differs side e

pub one_mover : {x : Node} (side : Colour) → x ≡ Going side → x ≡ Going (other_of side) → ⊥
one_mover side h k = let e : other_of side ≡ side = cc in other_differs side e

pub good_or_bad : {c : Class} → c ≡ Good → c ≡ Bad → ⊥
good_or_bad h k = cc
