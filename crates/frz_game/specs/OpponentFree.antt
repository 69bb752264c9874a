-- What is said of the bounds and tables of a side whose opponent no line forbids a move, whatever
-- the lines forbid the side itself.
use Rattle.std.specs.Prelude.{ℕ, List}
use Rattle.frz_board.specs.declared.man.Colour.{Colour}
use Rattle.frz_board.specs.Boards.{Board}
use Rattle.frz_board.specs.Men.{other_of}
use Rattle.frz_sets.specs.declared.exit.Value.{Value}
use Rattle.frz_sets.specs.Views.{RuleLines}
use Rattle.frz_index.specs.Members.{Member}
use Rattle.frz_arena.specs.declared.bound.Bound.{Bound}
use Rattle.frz_game.specs.Bounds.{IsBoundAt, IsTableOf}
use Rattle.frz_game.specs.ExactTables.{HasNoForbid}

-- S holds of each bound of a side whose opponent no line forbids a move
abbrev pub OfBounds : (RuleLines → (Board → Value) → Colour → Board → Bound → Type 0) → Type 0
OfBounds S =
    (rules : RuleLines) (value : Board → Value) (side : Colour) (p : Board) (b : Bound) →
    Member rules.groups p → IsBoundAt rules value side p b → HasNoForbid rules (other_of side) →
    S rules value side p b

-- S holds of each table of a side whose opponent no line forbids a move
abbrev pub OfTables : (RuleLines → (Board → Value) → Colour → List ℕ → Type 0) → Type 0
OfTables S =
    (rules : RuleLines) (value : Board → Value) (side : Colour) (codes : List ℕ) →
    IsTableOf rules value side codes → HasNoForbid rules (other_of side) →
    S rules value side codes
