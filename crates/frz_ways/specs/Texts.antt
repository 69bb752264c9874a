-- The text of a line: the bound of its start, its moves, and its end.
use Rattle.std.specs.Prelude.{ℕ, List, [], ◌∷◌, ◌++◌, Result, Ok, Err, codes, decimal}
use Rattle.frz_board.specs.declared.man.Colour.{Colour}
use Rattle.frz_board.specs.Moving.{Step}
use Rattle.frz_board.specs.Texts.{text_of}
use Rattle.frz_sets.specs.declared.exit.Value.{Value}
use Rattle.frz_sets.specs.declared.exit.Value.TheVariants.{WhiteWins, BlackWins, Draw, WhiteHolds, BlackHolds, Unknown, WhiteWinsIn, BlackWinsIn}
use Rattle.frz_arena.specs.declared.arm.Arm.{Arm}
use Rattle.frz_arena.specs.declared.arm.Next.{Next}
use Rattle.frz_arena.specs.declared.arm.Next.TheVariants.{Inside, Outside}
use Rattle.frz_bound_lines.specs.BoundLines.{kept_line}
use Rattle.frz_ways.specs.declared.end.LineEnd.{LineEnd}
use Rattle.frz_ways.specs.declared.end.LineEnd.TheVariants as ends
use Rattle.frz_ways.specs.declared.end.LineFault.{LineFault}
use Rattle.frz_ways.specs.Lines.{LinePly}

-- a value in the words of a rules text
abbrev pub value_text : Value → List ℕ
value_text WhiteWins = codes "white wins"
value_text BlackWins = codes "black wins"
value_text Draw = codes "draw"
value_text WhiteHolds = codes "white holds"
value_text BlackHolds = codes "black holds"
value_text Unknown = codes "unknown"
value_text (WhiteWinsIn n) = codes "white wins " ++ decimal n
value_text (BlackWinsIn n) = codes "black wins " ++ decimal n

abbrev pub exit_line : Value → List ℕ
exit_line v = codes "exit " ++ (value_text v ++ codes "\n")

abbrev pub move_line : Step → List ℕ
move_line m = text_of m ++ codes "\n"

-- behind a move that leaves the set stands the line of its exit
abbrev pub next_line : Next ℕ Value → List ℕ
next_line (Inside number) = []
next_line (Outside v) = exit_line v

abbrev pub arm_text : Arm Step ℕ Value → List ℕ
arm_text a = move_line a.mv ++ next_line a.next

abbrev pub plies_text : List LinePly → List ℕ
plies_text [] = []
plies_text (x ∷ plies) = move_line x.arm.mv ++ plies_text plies

abbrev pub end_line : LineEnd → List ℕ
end_line ends.Mate = codes "mate\n"
end_line ends.Stalemate = codes "stalemate\n"
end_line (ends.Exit v) = exit_line v
end_line ends.Cut = codes "cut\n"

-- the line of what the best line answers at its end; a fault has none, and the caller names it
abbrev pub last_line : Result LineEnd LineFault → List ℕ
last_line (Ok end) = end_line end
last_line (Err fault) = []

-- the line of the start's bound; a start that is refused has none
abbrev pub start_line : Colour → ℕ → List LinePly → Result LineEnd LineFault → List ℕ
start_line side code [] (Err fault) = []
start_line side code [] (Ok end) = kept_line side code
start_line side code (x ∷ plies) answer = kept_line side code

-- the whole text of a line from a start with this kept code
abbrev pub line_text : Colour → ℕ → List LinePly → Result LineEnd LineFault → List ℕ
line_text side code plies answer =
    start_line side code plies answer ++ (plies_text plies ++ last_line answer)
