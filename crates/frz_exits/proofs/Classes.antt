-- What is good for one side is bad for the other.
use Rattle.std.proofs.Common.{◌≡◌, refl}
use Rattle.frz_board.specs.declared.man.Colour.{Colour}
use Rattle.frz_board.specs.declared.man.Colour.TheVariants.{White, Black}
use Rattle.frz_board.specs.Men.{other_of}
use Rattle.frz_sets.specs.declared.exit.Value.{Value}
use Rattle.frz_sets.specs.declared.exit.Value.TheVariants.{WhiteWins, BlackWins, Draw, WhiteHolds, BlackHolds, Unknown, WhiteWinsIn, BlackWinsIn}
use Rattle.frz_arena.specs.declared.class.Class.TheVariants.{Good, Bad}
use Rattle.frz_exits.specs.Values.{class_of}

pub opposed : (v : Value) (side : Colour) → class_of v side ≡ Good →
    class_of v (other_of side) ≡ Bad
opposed WhiteWins White e = refl
opposed WhiteWins Black e = cc
opposed (WhiteWinsIn n) White e = refl
opposed (WhiteWinsIn n) Black e = cc
opposed BlackWins White e = cc
opposed BlackWins Black e = refl
opposed (BlackWinsIn n) White e = cc
opposed (BlackWinsIn n) Black e = refl
opposed Draw side e = cc
opposed WhiteHolds White e = cc
opposed WhiteHolds Black e = cc
opposed BlackHolds White e = cc
opposed BlackHolds Black e = cc
opposed Unknown side e = cc
