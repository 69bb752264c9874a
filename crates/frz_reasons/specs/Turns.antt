-- One turn of a failing way.
use Rattle.std.specs.Prelude.{ℕ, List, []}
use Rattle.frz_board.specs.declared.man.Colour.{Colour}
use Rattle.frz_board.specs.Moving.{Step}
use Rattle.frz_sets.specs.declared.exit.Value.{Value}
use Rattle.frz_arena.specs.Arena.{Arena}
use Rattle.frz_reasons.specs.declared.turn.Turn.{Turn}
use Rattle.frz_reasons.specs.declared.turn.Turn.TheVariants.{Over, Played}
use Rattle.frz_reasons.specs.FailingWays.{FailsFrom, IsPlayedAt}

-- the turn ends the way at the number, or plays the move that is due there
abbrev pub IsTurnAt : Arena Step ℕ Value → Colour → (codes : List ℕ) → (number : ℕ) → Turn → Type 0
IsTurnAt arena side codes number (Over reason) = FailsFrom arena side codes number [] reason
IsTurnAt arena side codes number (Played a) = IsPlayedAt arena side codes number a
