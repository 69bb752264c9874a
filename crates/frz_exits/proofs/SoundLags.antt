-- Sound rules have no number above 1,000.
use Rattle.std.proofs.Common.{◌≤◌, zero, suc, List, [], ◌∷◌, arith}
use Rattle.std.specs.Prelude.{All}
use Rattle.std.specs.List.{AllByRecursion}
use Rattle.frz_sets.specs.declared.exit.Value.{Value}
use Rattle.frz_sets.specs.declared.exit.Value.TheVariants.{WhiteWins, BlackWins, Draw, WhiteHolds, BlackHolds, Unknown, WhiteWinsIn, BlackWinsIn}
use Rattle.frz_board.specs.Boards.{Board}
use Rattle.frz_sets.specs.Views.{ExitLine, RuleLines}
use Rattle.frz_sets.specs.Sound.{HasFewPlies, IsSoundExit, IsSound}
use Rattle.frz_exits.specs.Values.{lag_of}
use Rattle.frz_exits.specs.Books.{value_by}
use Rattle.frz_exits.proofs.SmallLags.{first_value_small}

small_lag : (v : Value) → HasFewPlies v → lag_of v ≤ 1000
small_lag WhiteWins h = omega arith
small_lag BlackWins h = omega arith
small_lag Draw h = omega arith
small_lag WhiteHolds h = omega arith
small_lag BlackHolds h = omega arith
small_lag Unknown h = omega arith
small_lag (WhiteWinsIn n) h = h
small_lag (BlackWinsIn n) h = h

pub sound_lags : (lines : List ExitLine) → AllByRecursion IsSoundExit lines →
    All (λ line. lag_of line.value ≤ 1000) lines
sound_lags [] h k d l = absurd (omega (arith, l))
sound_lags (line ∷ lines) h zero d l = small_lag line.value (h.0).lag
sound_lags (line ∷ lines) h (suc k) d l = sound_lags lines h.1 k d (omega (arith, l))

-- so each value of a position outside the set has none
pub small_values : (r : RuleLines) → IsSound r → (q : Board) → lag_of (value_by r q) ≤ 1000
small_values r sound q =
    let lines = sound.lines in
    first_value_small r.exits (sound_lags r.exits lines.exits) q
