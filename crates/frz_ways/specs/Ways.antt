-- The way of a side by the codes kept for it: its best line, or its session against an input.
use Rattle.std.specs.Prelude.{ℕ, List}
use Rattle.frz_board.specs.declared.man.Colour.{Colour}
use Rattle.frz_board.specs.Moving.{Step}
use Rattle.frz_sets.specs.declared.exit.Value.{Value}
use Rattle.frz_arena.specs.Arena.{Arena}
use Rattle.frz_arena.specs.Counted.{reader}
use Rattle.frz_arena.specs.WayEnds.{End}
use Rattle.frz_arena.specs.Ways.{Player, Ply, Opponent as Finder, ByCodes, ByInput, IsWay}
use Rattle.frz_ways.specs.declared.end.TheConstants.{LINE_LIMIT}
use Rattle.frz_ways.specs.declared.opponent.Opponent.{Opponent}
use Rattle.frz_ways.specs.declared.opponent.Opponent.TheVariants as opponents
use Rattle.frz_ways.specs.Reading.{Input, Halt, reads}

-- a ply of a way: its places are pairs of the plies played before and a number
abbrev pub WayPly : Type 0
WayPly = Ply Step (ℕ × ℕ) Value

abbrev pub EndOfWay : Type 0
EndOfWay = End (ℕ × ℕ) Value Halt

-- what finds the opponent's plies: the codes, which cut a hold after LINE_LIMIT plies, or the input
abbrev pub finder : Arena Step ℕ Value → Opponent → Finder (ℕ × ℕ) Input Halt
finder arena opponents.Codes = ByCodes LINE_LIMIT
finder arena opponents.Input = ByInput (λ p input. reads (arena.arms p.1) input.more input.left)

-- a player that goes by these codes, where `codes k` are those known after k plies
abbrev pub way_player : Arena Step ℕ Value → Opponent → Colour → (codes : ℕ → List ℕ)
    → Player Step (ℕ × ℕ) Value Input Halt
way_player arena opponent side codes = reader arena side codes (finder arena opponent)

-- from the number, after `played` plies and with the first input left, the way has these plies and
-- this end, and leaves the last input. Where the codes find all plies, the input stays as it is
abbrev pub GoesOn : Arena Step ℕ Value → Opponent → Colour → (codes : ℕ → List ℕ) → (played : ℕ)
    → Input → (number : ℕ) → List WayPly → EndOfWay → Input → Type 0
GoesOn arena opponent side codes played input number plies end left =
    IsWay (way_player arena opponent side codes) played input (played, number) plies end left
