-- What the two codes of an exact table at one position tell of it.
use Rattle.std.specs.Prelude.{ℕ, ◌==◌, ◌&&◌, if◌then◌else◌}
use Rattle.frz_arena.specs.Codes.{is_win, is_failure}
use Rattle.frz_sets.specs.declared.exit.Value.{Value}
use Rattle.frz_sets.specs.declared.exit.Value.TheVariants.{WhiteWins, BlackWins, Draw, WhiteHolds, BlackHolds, Unknown}

-- the value by White's code and Black's, one line for each pair that tells something
abbrev pub pair_value : ℕ → ℕ → Value
pair_value white black =
    if is_win white && is_failure black then WhiteWins else
    (if is_failure white && is_win black then BlackWins else
    (if (white == 1) && (black == 1) then Draw else
    (if (white == 1) && is_failure black then WhiteHolds else
    (if is_failure white && (black == 1) then BlackHolds else Unknown))))
