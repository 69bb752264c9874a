-- The text of a session: the bound of its start, its plies with
-- the lines that were refused, and its end.
use Rattle.std.specs.Prelude.{ℕ, zero, suc, List, [], ◌∷◌, ◌++◌, codes, if◌then◌else◌}
use Rattle.frz_board.specs.declared.man.Colour.{Colour}
use Rattle.frz_board.specs.Men.{same_colour}
use Rattle.frz_arena.specs.WayEnds.{Wrong, NoBound, Mated, Stalemated, Exit, Cut, Stopped}
use Rattle.frz_bound_lines.specs.BoundLines.{kept_line}
use Rattle.frz_ways.specs.Texts.{exit_line, move_line}
use Rattle.frz_ways.specs.declared.hearing.Why.{Why}
use Rattle.frz_ways.specs.declared.hearing.Why.TheVariants.{Ended, Limit}
use Rattle.frz_ways.specs.Sessions.{SessionPly, EndOfSession}

-- one line of text for each refused line of the input
abbrev pub refused_text : ℕ → List ℕ
refused_text zero = []
refused_text (suc n) = codes "illegal\n" ++ refused_text n

-- a ply of the side, or one of the opponent behind the lines that were refused before it
abbrev pub ply_text : Colour → SessionPly → List ℕ
ply_text side x =
    if same_colour x.mover side then codes "move " ++ move_line x.arm.mv
    else refused_text x.refused ++ (codes "reply " ++ move_line x.arm.mv)

abbrev pub plies_text : Colour → List SessionPly → List ℕ
plies_text side [] = []
plies_text side (x ∷ plies) = ply_text side x ++ plies_text side plies

-- the line where the input gives no reply. For a limit the session has none: its caller names it
abbrev pub why_line : Why → List ℕ
why_line Ended = codes "input ended\n"
why_line (Limit limit) = []

-- the line of an end. A wrong code and a start without a bound have none: the caller names them
abbrev pub end_text : EndOfSession → List ℕ
end_text (Wrong number kept given) = []
end_text NoBound = []
end_text (Mated mover) = codes "mate\n"
end_text (Stalemated mover) = codes "stalemate\n"
end_text (Exit v) = exit_line v
end_text Cut = codes "cut\n"
end_text (Stopped halt) = refused_text halt.refused ++ why_line halt.why

-- the line of the start's bound; a start that is refused has none
abbrev pub start_line : Colour → ℕ → List SessionPly → EndOfSession → List ℕ
start_line side code [] (Wrong number kept given) = []
start_line side code [] NoBound = []
start_line side code plies end = kept_line side code

-- the whole text of a session from a start with this kept code
abbrev pub session_text : Colour → ℕ → List SessionPly → EndOfSession → List ℕ
session_text side code plies end =
    start_line side code plies end ++ (plies_text side plies ++ end_text end)
