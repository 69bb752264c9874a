-- A table behind the exit lines of another.
use Rattle.std.specs.Prelude.{ℕ, List}
use Rattle.frz_board.specs.declared.man.Colour.{Colour}
use Rattle.frz_board.specs.declared.man.Colour.TheVariants.{White, Black}
use Rattle.frz_sets.specs.Views.{ExitLine, GroupLine, RuleLines}
pub use Rattle.frz_chain.specs.Books.{or_else}

-- the groups of its set, the exit lines of its text, and the codes of both sides
pub record Back : Type 0 where
  pub groups : List GroupLine
  pub exits : List ExitLine
  pub white : List ℕ
  pub black : List ℕ

-- the table of these rules with these codes
abbrev pub back_with : RuleLines → (white black : List ℕ) → Back
back_with rules white black =
    record { groups = rules.groups; exits = rules.exits; white = white; black = black }

-- its codes of a side
abbrev pub back_codes : Back → Colour → List ℕ
back_codes back White = back.white
back_codes back Black = back.black
