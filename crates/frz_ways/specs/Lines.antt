-- The best line of a side by the codes kept for it, as they are read: its plies and its end.
use Rattle.std.specs.Prelude.{ℕ, List}
use Rattle.std.specs.declared.convert.Infallible.{Infallible}
use Rattle.frz_board.specs.declared.man.Colour.{Colour}
use Rattle.frz_board.specs.Boards.{Board}
use Rattle.frz_board.specs.Moving.{Step}
use Rattle.frz_sets.specs.declared.exit.Value.{Value}
use Rattle.frz_sets.specs.Views.{RuleLines}
use Rattle.frz_arena.specs.Arena.{Arena}
use Rattle.frz_arena.specs.Counted.{reader}
use Rattle.frz_arena.specs.WayEnds.{End}
use Rattle.frz_arena.specs.Ways.{Player, Ply, ByCodes, IsWay}
use Rattle.frz_game.specs.Games.{graph_by}
use Rattle.frz_ways.specs.declared.end.TheConstants.{LINE_LIMIT}

-- a ply of a line: its places are pairs of the plies played before and a number
abbrev pub LinePly : Type 0
LinePly = Ply Step (ℕ × ℕ) Value

-- the ends of a line, which no input can stop
abbrev pub EndOfLine : Type 0
EndOfLine = End (ℕ × ℕ) Value Infallible

-- the codes find the moves of both sides, where `codes k` are those known after k plies, and a hold
-- is cut after LINE_LIMIT plies
abbrev pub line_player : Arena Step ℕ Value → Colour → (codes : ℕ → List ℕ)
    → Player Step (ℕ × ℕ) Value (Unit {0}) Infallible
line_player arena side codes = reader arena side codes (ByCodes LINE_LIMIT)

-- the line of the side from the number, in the game that the rules describe, with these values
-- outside the set
abbrev pub IsLine : RuleLines → (Board → Value) → Colour → (codes : ℕ → List ℕ) → (start : ℕ)
    → List LinePly → EndOfLine → Type 0
IsLine rules value side codes start plies end =
    IsWay (line_player (graph_by rules value) side codes) 0 tt (0, start) plies end tt
