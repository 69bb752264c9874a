-- What a solved game keeps.
use Rattle.std.specs.Prelude.{◌≡◌, ℕ, List}
use Rattle.frz_board.specs.declared.man.Colour.{Colour}
use Rattle.frz_sets.specs.Sound.{IsSound}
use Rattle.frz_sets.specs.Views.{GroupLine, RuleLines}
use Rattle.frz_exits.specs.Books.{value_by}
use Rattle.frz_graph.specs.EntryCodes.{of_side}
use Rattle.frz_game.specs.Bounds.{IsTableOf}

-- the set is that of the rules, and the two lists are the tables of both sides
pub record IsSolved (rules : RuleLines) (set : List GroupLine) (white black : List ℕ) : Type 0 where
  pub sound : IsSound rules
  pub fits : set ≡ rules.groups
  pub tables : (side : Colour) →
      IsTableOf rules (value_by rules) side (of_side side white black)
