-- The lines that tell what is behind each move.
use Rattle.std.specs.Prelude.{ℕ, Bool, true, false, List, [], ◌∷◌, ◌++◌, Option, Some, None, codes}
use Rattle.frz_board.specs.declared.man.Colour.{Colour}
use Rattle.frz_board.specs.declared.man.Colour.TheVariants.{White, Black}
use Rattle.frz_board.specs.Attacks.{is_in_check}
use Rattle.frz_board.specs.Boards.{Board}
use Rattle.frz_board.specs.Moving.{Step}
use Rattle.frz_fide.specs.Legal.{after}
use Rattle.frz_fide.specs.Listing.{legal_moves_of}
use Rattle.frz_san.specs.Notation.{san_of}
use Rattle.frz_sets.specs.declared.exit.Value.{Value}
use Rattle.frz_arena.specs.declared.arm.Next.{Next}
use Rattle.frz_arena.specs.declared.arm.Next.TheVariants.{Inside, Outside}
use Rattle.frz_bound_lines.specs.BoundLines.{kept_words, side_name}
use Rattle.frz_ways.specs.Texts.{value_text}
use Rattle.frz_atlas_prelude.specs.BackLines.{back_word}
use Rattle.frz_commands_atlas.specs.declared.rows.Row.{Row}
use Rattle.frz_commands_atlas.specs.FirstBack.{Found}

-- a side and the words of its code
abbrev pub side_words : Colour → ℕ → List ℕ
side_words side code = side_name side ++ kept_words code

abbrev pub both_words : (white black : ℕ) → List ℕ
both_words white black = side_words White white ++ (codes ", " ++ side_words Black black)

-- behind an exit the codes of both sides in the table that tells of it, and else its value
abbrev pub outside_text : Value → Option Found → List ℕ
outside_text v None = codes " exit " ++ value_text v
outside_text v (Some found) =
    codes " " ++ (back_word found.0 ++ (codes " " ++ both_words found.1.0 found.1.1))

-- behind a move that stays in the set the codes of both sides
abbrev pub reached_text : Option Found → Next ℕ Value → (white black : ℕ) → List ℕ
reached_text found (Inside number) white black = codes " " ++ both_words white black
reached_text found (Outside v) white black = outside_text v found

-- whether the text of the rules forbids the mover this move
abbrev pub freedom_text : (free : Bool) → List ℕ
freedom_text true = []
freedom_text false = codes ", renounced"

-- what stands behind the move on its line
abbrev pub behind_text : Option Found → Row → List ℕ
behind_text found row =
    reached_text found row.arm.next row.white row.black
    ++ (freedom_text row.arm.free ++ codes "\n")

-- `found` gives the table that tells of a position outside the set
abbrev pub row_line : (found : Board → Option Found) → Board → Row → List ℕ
row_line found p row = san_of p row.arm.mv ++ behind_text (found (after p row.arm.mv)) row

abbrev pub rows_text : (found : Board → Option Found) → Board → List Row → List ℕ
rows_text found p [] = []
rows_text found p (row ∷ rows) = row_line found p row ++ rows_text found p rows

-- the text by the mover's legal moves; the flag says whether his king is attacked
abbrev pub each_by : List Step → (check : Bool) → (lines : List ℕ) → List ℕ
each_by [] true lines = codes "mate\n"
each_by [] false lines = codes "stalemate\n"
each_by (m ∷ ms) check lines = lines

-- a line for each move; without a move it is mate or stalemate
abbrev pub each_text : (found : Board → Option Found) → Board → List Row → List ℕ
each_text found p rows =
    each_by (legal_moves_of p) (is_in_check p p.turn) (rows_text found p rows)
