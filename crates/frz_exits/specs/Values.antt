-- What a value is worth to a side, and how long an assigned win takes.
use Rattle.std.specs.Prelude.{ℕ, Bool, true, false}
use Rattle.frz_board.specs.declared.man.Colour.{Colour}
use Rattle.frz_board.specs.declared.man.Colour.TheVariants.{White, Black}
use Rattle.frz_sets.specs.declared.exit.Value.{Value}
use Rattle.frz_sets.specs.declared.exit.Value.TheVariants.{WhiteWins, BlackWins, Draw, WhiteHolds, BlackHolds, Unknown, WhiteWinsIn, BlackWinsIn}
use Rattle.frz_arena.specs.declared.class.Class.{Class}
use Rattle.frz_arena.specs.declared.class.Class.TheVariants.{Good, Safe, Bad}

-- good where the side wins, safe where it holds or the game is drawn, and bad otherwise
abbrev pub class_of : Value → Colour → Class
class_of WhiteWins White = Good
class_of WhiteWins Black = Bad
class_of (WhiteWinsIn n) White = Good
class_of (WhiteWinsIn n) Black = Bad
class_of BlackWins White = Bad
class_of BlackWins Black = Good
class_of (BlackWinsIn n) White = Bad
class_of (BlackWinsIn n) Black = Good
class_of Draw side = Safe
class_of WhiteHolds White = Safe
class_of WhiteHolds Black = Bad
class_of BlackHolds White = Bad
class_of BlackHolds Black = Safe
class_of Unknown side = Bad

-- the lag of a value: the plies of a win that names them, and 0 for all other values
abbrev pub lag_of : Value → ℕ
lag_of (WhiteWinsIn n) = n
lag_of (BlackWinsIn n) = n
lag_of _ = 0

-- the value says in how many plies a side wins
abbrev pub is_numbered : Value → Bool
is_numbered (WhiteWinsIn n) = true
is_numbered (BlackWinsIn n) = true
is_numbered _ = false

-- the value says nothing of a position
abbrev pub is_unknown : Value → Bool
is_unknown WhiteWins = false
is_unknown BlackWins = false
is_unknown Draw = false
is_unknown WhiteHolds = false
is_unknown BlackHolds = false
is_unknown Unknown = true
is_unknown (WhiteWinsIn n) = false
is_unknown (BlackWinsIn n) = false
