-- The text of the answer.
use Rattle.std.specs.Prelude.{ℕ, ◌==◌, List, [], ◌∷◌, ◌++◌, codes, decimal, if◌then◌else◌}
use Rattle.frz_board.specs.Boards.{Board}
use Rattle.frz_fen.specs.Writing.{fen_text}
use Rattle.frz_bound_lines.specs.BoundLines.{side_name}
use Rattle.frz_atlas_prelude.specs.BackLines.{back_word}
use Rattle.frz_commands_premises.specs.declared.line.Line.{Line}
use Rattle.frz_commands_premises.specs.declared.line.Line.TheVariants.{Back, Believed}
use Rattle.frz_commands_premises.specs.LineTexts.{line_text}
use Rattle.frz_commands_premises.specs.PremiseLines.{belief_among, tells_belief}
use Rattle.frz_commands_verdict.specs.declared.verdict.Verdict.{Verdict}
use Rattle.frz_commands_verdict.specs.declared.verdict.Verdict.TheVariants.{MatesWithin, Wins, Draw, DoesNotLose, NotShown}

abbrev pub verdict_line : Verdict → List ℕ
verdict_line (MatesWithin side plies) =
    side_name side ++ (codes " wins, mate within " ++ decimal plies ++ codes "\n")
verdict_line (Wins side) = side_name side ++ codes " wins\n"
verdict_line Draw = codes "draw\n"
verdict_line (DoesNotLose side) = side_name side ++ codes " does not lose\n"
verdict_line NotShown = codes "not shown\n"

-- the word for the table at a place, where `own` is the place of TABLE, behind the BACKs
abbrev pub table_word : (own place : ℕ) → List ℕ
table_word own place = if place == own then codes "table" else back_word place

-- a line behind the word for its table
abbrev pub of_table : (own place : ℕ) → Line → List ℕ
of_table own place line = table_word own place ++ (codes " " ++ line_text line)

-- what a line tells of an exit line that is believed
abbrev pub belief_text : (own place : ℕ) → Line → List ℕ
belief_text own place line = if tells_belief line then of_table own place line else []

-- the place of the table whose lines come next
abbrev pub place_after : (place : ℕ) → Line → ℕ
place_after place (Back next) = next
place_after place line = place

-- of these lines, those that tell of belief; the first are of the table at this place
abbrev pub beliefs_text : (own place : ℕ) → List Line → List ℕ
beliefs_text own place [] = []
beliefs_text own place (line ∷ lines) =
    belief_text own place line ++ beliefs_text own (place_after place line) lines

-- the exit lines that are believed, and how many they are
abbrev pub lines_text : (own : ℕ) → List Line → List ℕ
lines_text own lines = beliefs_text own 0 lines ++ line_text (Believed (belief_among lines))

-- the position, the verdict, and what is believed
abbrev pub verdict_text : Board → Verdict → (own : ℕ) → List Line → List ℕ
verdict_text p verdict own lines =
    (fen_text p ++ codes "\n") ++ (verdict_line verdict ++ lines_text own lines)
