-- What the digits of the last groups of a set give.
use Rattle.std.specs.Prelude.{ℕ, ◌+◌, ◌*◌, ◌≡◌, true, Some, List, length, map}
use Rattle.std.specs.List.{slice_get}
use Rattle.frz_board.specs.declared.man.Colour.{Colour}
use Rattle.frz_board.specs.declared.man.Colour.TheVariants.{White, Black}
use Rattle.frz_board.specs.declared.man.Kind.{Kind}
use Rattle.frz_board.specs.declared.man.Kind.TheVariants.{King}
use Rattle.frz_combinations.specs.MixedRadix.{AreDigits, product, value}
use Rattle.frz_sets.specs.Groups.{has_king_group}
use Rattle.frz_sets.specs.Sets.{radix_of}
use Rattle.frz_sets.specs.Views.{GroupLine}
use Rattle.frz_configurations.specs.Configurations.{has_kings, king_state, other_digits, others}
use Rattle.frz_configurations.specs.declared.parts.Parts.{Parts}

-- each digit of the group is a state, which is a king's
pub record AreKings (g : GroupLine) : Type 0 where
  pub each : radix_of g ≡ length g.states
  pub kings : (k : ℕ) (state : Kind × ℕ) → slice_get g.states k ≡ Some state → state.0 ≡ King

-- each group with kings has kings alone
abbrev pub HaveKingsAlone : List GroupLine → Type 0
HaveKingsAlone gs =
    (k : ℕ) (g : GroupLine) → slice_get gs k ≡ Some g → has_kings g ≡ true → AreKings g

-- the square of the colour's king
abbrev pub square_of : Parts → Colour → ℕ
square_of x White = x.white
square_of x Black = x.black

-- the number has digits for these groups, and a rest: those of the other men give the
-- configuration, and those of the kings their squares
pub record IsParted (gs : List GroupLine) (number : ℕ) (x : Parts) : Type 0 where
  pub ds : List ℕ
  pub fits : AreDigits (map radix_of gs) ds
  pub whole : number ≡ x.rest * product (map radix_of gs) + value (map radix_of gs) ds
  pub count : x.count ≡ product (map radix_of (others gs))
  pub configuration : x.configuration ≡ value (map radix_of (others gs)) (other_digits gs ds)
  pub kings : (c : Colour) → has_king_group gs c ≡ true →
      king_state c gs ds ≡ Some (King, square_of x c)
