-- Values whose lags are small.
use Rattle.std.specs.Prelude.{◌≤◌}
use Rattle.frz_board.specs.Boards.{Board}
use Rattle.frz_fide.specs.Valid.{IsValid}
use Rattle.frz_sets.specs.declared.exit.Value.{Value}
use Rattle.frz_graph.specs.Values.{lag_of}

-- no value of a valid position names more than 1,000 plies
abbrev pub HasSmallLags : (Board → Value) → Type 0
HasSmallLags value = (q : Board) → IsValid q → lag_of (value q) ≤ 1000
