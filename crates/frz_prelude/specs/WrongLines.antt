-- The line that names an entry of a table which is not its local code.
use Rattle.std.specs.Prelude.{ℕ, List, ◌++◌, codes, decimal}
use Rattle.frz_game.specs.declared.wrong.Wrong.{Wrong}
use Rattle.frz_bound_lines.specs.BoundLines.{side_name}

-- the side and the number of an entry
abbrev pub place_text : Wrong → List ℕ
place_text wrong = codes "wrong " ++ side_name wrong.side ++ (codes " " ++ decimal wrong.number)

-- the code that the table keeps there, and the local code
abbrev pub codes_text : Wrong → List ℕ
codes_text wrong =
    codes " kept " ++ decimal wrong.kept ++ (codes " given " ++ decimal wrong.given) ++ codes "\n"

abbrev pub wrong_line : Wrong → List ℕ
wrong_line wrong = place_text wrong ++ codes_text wrong

-- an entry of a table that another leans on
abbrev pub back_wrong_line : Wrong → List ℕ
back_wrong_line wrong = codes "back " ++ wrong_line wrong
