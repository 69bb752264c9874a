-- When the codes that a file keeps are the tables of the restricted game, and what they tell then.
use Rattle.std.specs.Prelude.{◌≡◌, ℕ, List}
use Rattle.frz_board.specs.Boards.{Board}
use Rattle.frz_board.specs.declared.man.Colour.{Colour}
use Rattle.frz_sets.specs.declared.exit.Value.{Value}
use Rattle.frz_sets.specs.Views.{RuleLines}
use Rattle.frz_arena.specs.declared.bound.Bound.{Bound}
use Rattle.frz_arena.specs.Codes.{code_of}
use Rattle.frz_game.specs.Bounds.{IsBoundAt, IsTableOf}
use Rattle.frz_game.specs.Meaning.{Means}
use Rattle.frz_table.specs.Opening.{Contents}
use Rattle.frz_check.specs.Kept.{kept_codes}

-- the codes that these bytes keep are the tables of both sides, by the values of a book
abbrev pub KeepsTables : (Board → Value) → Contents → List ℕ → Type 0
KeepsTables value contents bytes =
    (side : Colour) → IsTableOf contents.rules value side (kept_codes contents bytes side)

-- the code stands for the bound of the side at the position, and the bound says of chess what Means
-- states: under the premise that the exits are true, with a win the side forces mate, and with a
-- win or a hold the opponent forces none
pub record KeepsBound (rules : RuleLines) (value : Board → Value) (side : Colour) (p : Board)
    (code : ℕ) : Type 0 where
  pub bound : Bound
  pub is : code ≡ code_of bound
  pub of : IsBoundAt rules value side p bound
  pub means : Means rules value side p bound
