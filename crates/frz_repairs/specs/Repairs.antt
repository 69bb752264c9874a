-- The lines that say what a text lacks where a move leaves its set to a position of no known value.
use Rattle.std.specs.Prelude.{ℕ, List, [], ◌∷◌, ◌++◌, Option, None, Some, codes}
use Rattle.frz_board.specs.declared.man.Colour.{Colour}
use Rattle.frz_board.specs.declared.man.Kind.{Kind}
use Rattle.frz_board.specs.declared.man.Kind.TheVariants.{Queen, Rook, Bishop, Knight}
use Rattle.frz_board.specs.declared.man.Man.{Man}
use Rattle.frz_board.specs.Boards.{Board, man_on}
use Rattle.frz_board.specs.Men.{letter_of_kind}
use Rattle.frz_board.specs.Moving.{Step}
use Rattle.frz_board.specs.Texts.{file_letter, rank_digit}
use Rattle.frz_bound_lines.specs.BoundLines.{side_name}
use Rattle.frz_fide.specs.Legal.{after}
use Rattle.frz_report.specs.Exits.{class_of}
use Rattle.frz_repairs.specs.declared.victim.Victim.{Victim}
use Rattle.frz_repairs.specs.Victims.{victim_of}

-- a kind of man on a square, in the words of groups, as K:h3
abbrev pub standing : Kind → (square : ℕ) → List ℕ
standing kind square =
    letter_of_kind kind ∷ 58 ∷ file_letter square ∷ rank_digit square ∷ []

-- the side whose men the text lacks
abbrev pub wanted : Colour → List ℕ
wanted side = codes "wanted " ++ side_name side

-- the man that moved may stand where he went, as in wanted black K:h3
abbrev pub move_line : Option Man → (square : ℕ) → List ℕ
move_line None square = []
move_line (Some man) square =
    wanted man.colour ++ (codes " " ++ (standing man.kind square ++ codes "\n"))

-- the victim may be gone: his group may be without him, as in wanted white 0-1 P:h4
abbrev pub victim_line : Victim → List ℕ
victim_line victim =
    wanted victim.man.colour
    ++ (codes " 0-1 " ++ (standing victim.man.kind victim.square ++ codes "\n"))

abbrev pub capture_line : Option Victim → List ℕ
capture_line None = []
capture_line (Some victim) = victim_line victim

-- the side may have what its pawn can become on the square
abbrev pub new_men : (square : ℕ) → List ℕ
new_men square =
    (codes " " ++ standing Queen square) ++ ((codes " " ++ standing Rook square)
    ++ ((codes " " ++ standing Bishop square) ++ (codes " " ++ standing Knight square)))

-- so it is where a pawn becomes something, as in wanted white Q:a8 R:a8 B:a8 N:a8
abbrev pub new_men_line : Colour → (square : ℕ) → List ℕ
new_men_line side square = wanted side ++ (new_men square ++ codes "\n")

abbrev pub promotion_line : Option Kind → Colour → (square : ℕ) → List ℕ
promotion_line None side square = []
promotion_line (Some _) side square = new_men_line side square

-- a table of the men that are left, as in wanted a table of KPPkp
abbrev pub table_line : Board → List ℕ
table_line q = codes "wanted a table of " ++ (class_of q ++ codes "\n")

-- the lines of a move after which other men stand: what the set lacks of them, and their table
abbrev pub men_lines : Option Victim → Board → Step → List ℕ
men_lines victim p m =
    capture_line victim ++ (promotion_line m.promo p.turn m.to ++ table_line (after p m))

-- the lines by what the move captures and what a pawn becomes by it: of a move that does neither,
-- the line of the man that moved
abbrev pub lines_by : Option Victim → Option Kind → Board → Step → List ℕ
lines_by None None p m = move_line (man_on p m.from) m.to
lines_by victim promo p m = men_lines victim p m

-- the repairs of a move that leaves the set of a text to a position of no known value
unfoldable pub repairs_text : Board → Step → List ℕ
repairs_text p m = lines_by (victim_of p m) m.promo p m
