-- The colours of two men: the same, or each the other's.
use Rattle.std.proofs.Common.{◌≡◌, refl, true, false, ◌⊎◌, inl, inr}
use Rattle.frz_board.specs.Men.{other_of, same_colour}
use Rattle.frz_board.specs.declared.man.Colour.{Colour}
use Rattle.frz_board.specs.declared.man.Colour.TheVariants.{White, Black}

pub same_side : (c d : Colour) → same_colour c d ≡ true → c ≡ d
same_side White White h = refl
same_side White Black h = cc
same_side Black White h = cc
same_side Black Black h = refl

pub own_colour : (c : Colour) → same_colour c c ≡ true
own_colour White = refl
own_colour Black = refl

pub other_colour : (c : Colour) → same_colour (other_of c) c ≡ false
other_colour White = refl
other_colour Black = refl

pub side : (c d : Colour) → (d ≡ c) ⊎ (d ≡ other_of c)
side White White = inl refl
side White Black = inr refl
side Black White = inr refl
side Black Black = inl refl
