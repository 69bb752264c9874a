-- The lines of a report.
use Rattle.std.specs.Prelude.{ℕ, List, ◌++◌, codes, decimal}
use Rattle.frz_board.specs.Boards.{Board}
use Rattle.frz_fen.specs.Writing.{fen_text}
use Rattle.frz_report.specs.Squeezes.{Squeeze}

-- the line of a squeeze: two numbers and the position at the first
abbrev pub pair_line : ℕ → ℕ → Board → List ℕ
pair_line w b p = codes "squeeze " ++ decimal w
    ++ (codes " " ++ decimal b ++ (codes " " ++ (fen_text p ++ codes "\n")))

abbrev pub squeeze_line : Squeeze → List ℕ
squeeze_line s = pair_line s.white_to_move s.black_to_move s.position

-- the line of a class, and how many open exits have it
abbrev pub class_line : List ℕ × ℕ → List ℕ
class_line e = codes "exits " ++ decimal e.1 ++ (codes " " ++ (e.0 ++ codes "\n"))

-- the last line: how many squeezes and how many open exits there are
abbrev pub last_line : (squeezes unassigned : ℕ) → List ℕ
last_line squeezes unassigned =
    codes "squeezes " ++ decimal squeezes
    ++ (codes " unassigned " ++ decimal unassigned ++ codes "\n")
