-- The session of a side by the codes kept for it against an input:
-- its plies, its end, and what is left of the input.
use Rattle.std.specs.Prelude.{ℕ, List}
use Rattle.frz_board.specs.declared.man.Colour.{Colour}
use Rattle.frz_board.specs.Boards.{Board}
use Rattle.frz_board.specs.Moving.{Step}
use Rattle.frz_sets.specs.declared.exit.Value.{Value}
use Rattle.frz_sets.specs.Views.{RuleLines}
use Rattle.frz_arena.specs.Arena.{Arena}
use Rattle.frz_arena.specs.Ways.{Player}
use Rattle.frz_game.specs.Games.{graph_by}
use Rattle.frz_ways.specs.declared.opponent.Opponent.TheVariants as opponents
use Rattle.frz_ways.specs.Reading.{Input, Halt, opened}
use Rattle.frz_ways.specs.Ways.{WayPly, EndOfWay, way_player, GoesOn}

-- a ply of a session: its places are pairs of the plies played before and a number
abbrev pub SessionPly : Type 0
SessionPly = WayPly

abbrev pub EndOfSession : Type 0
EndOfSession = EndOfWay

-- the side goes by these codes, where `codes k` are those known after k plies; the input says the
-- opponent's moves
abbrev pub session_player : Arena Step ℕ Value → Colour → (codes : ℕ → List ℕ)
    → Player Step (ℕ × ℕ) Value Input Halt
session_player arena side codes = way_player arena opponents.Input side codes

-- the session of the side from the number, in the game that the
-- rules describe, with these values outside the set
abbrev pub IsSession : RuleLines → (Board → Value) → Colour → (codes : ℕ → List ℕ) → (start : ℕ) →
    (input : List ℕ) →
    List SessionPly → EndOfSession → Input → Type 0
IsSession rules value side codes start input plies end left =
    GoesOn (graph_by rules value) opponents.Input side codes 0 (opened input) start plies end left
