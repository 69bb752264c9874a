-- What contracts see of a condition, a group, an exit line and rules: records of lists.
use Rattle.std.specs.Prelude.{ℕ, Bool, List}
use Rattle.frz_board.specs.declared.man.Colour.{Colour}
use Rattle.frz_board.specs.declared.man.Kind.{Kind}
use Rattle.frz_sets.specs.declared.exit.Test.{Test}
use Rattle.frz_sets.specs.declared.exit.Value.{Value}
use Rattle.frz_sets.specs.declared.forbid.Forbid.{Forbid}

pub record Condition : Type 0 where
  pub negated : Bool
  pub test : Test

-- a state is a kind and the number of a square
pub record GroupLine : Type 0 where
  pub colour : Colour
  pub least : ℕ
  pub most : ℕ
  pub states : List (Kind × ℕ)

pub record ExitLine : Type 0 where
  pub value : Value
  pub conds : List Condition

-- the lines of each form, in the order of the text
pub record RuleLines : Type 0 where
  pub groups : List GroupLine
  pub forbids : List Forbid
  pub exits : List ExitLine
