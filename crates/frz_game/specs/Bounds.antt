-- The bound of a side at a position, and the table of a side.
use Rattle.std.specs.Prelude.{ℕ, List}
use Rattle.frz_board.specs.declared.man.Colour.{Colour}
use Rattle.frz_board.specs.Boards.{Board}
use Rattle.frz_sets.specs.declared.exit.Value.{Value}
use Rattle.frz_sets.specs.Views.{RuleLines}
use Rattle.frz_arena.specs.declared.bound.Bound.{Bound}
use Rattle.frz_arena.specs.Bounds.{IsBound}
use Rattle.frz_arena.specs.Chess.{Forces}
use Rattle.frz_arena.specs.Games.{goals_of}
use Rattle.frz_arena.specs.Tables.{IsTable}
use Rattle.frz_game.specs.Games.{chess, game_of, arena_by}
use Rattle.frz_game.specs.Numbers.{numbers_by}

-- the bound of the side at a position of the set
abbrev pub IsBoundAt : RuleLines → (Board → Value) → Colour → Board → Bound → Type 0
IsBoundAt rules value side p bound = IsBound (arena_by rules value) side p bound

-- the table of the side: the codes of its bounds in order of number, and 0 at broken numbers
abbrev pub IsTableOf : RuleLines → (Board → Value) → Colour → List ℕ → Type 0
IsTableOf rules value side codes =
    IsTable (numbers_by rules.groups) (arena_by rules value) side codes

-- within n plies the side forces mate, or a position outside the set whose value is a win for it.
-- That position need not be an exit: it may lie beyond an exit of another value, as an unknown one
abbrev pub ForcesWin : RuleLines → (Board → Value) → Colour → ℕ → Board → Type 0
ForcesWin rules value side n p = Forces chess (goals_of (game_of rules value) side) side n p
