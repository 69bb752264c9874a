-- The FEN text of a position, with the fewest digits.
use Rattle.std.specs.Prelude.{ℕ, zero, suc, ◌+◌, ◌-◌, ◌*◌, ◌==◌, List, [], ◌∷◌, ◌++◌, take, drop, Option, None, Some, codes, if◌then◌else◌}
use Rattle.std.specs.List.{join_with_byte}
use Rattle.std.specs.Option.{option_map_or}
use Rattle.frz_board.specs.declared.man.Colour.{Colour}
use Rattle.frz_board.specs.declared.man.Colour.TheVariants.{White, Black}
use Rattle.frz_board.specs.Men.{man_of_cell, letter_of_man}
use Rattle.frz_board.specs.Boards.{Board}
use Rattle.frz_board.specs.Texts.{file_letter, rank_digit}
use Rattle.frz_fen.specs.Placement.{is_gap}

-- the letter of a cell that holds a man
abbrev pub letter_of : ℕ → ℕ
letter_of cell = option_map_or letter_of_man (man_of_cell cell) 0

-- the digit of a run of empty squares, and nothing for an empty run
abbrev pub gap_text : ℕ → List ℕ
gap_text n = if n == 0 then [] else (48 + n) ∷ []

-- the text with an empty square put in front: one more on the digit that it begins with, or a new
-- digit 1
abbrev pub with_gap : List ℕ → List ℕ
with_gap [] = 49 ∷ []
with_gap (b ∷ bs) = if is_gap b then (b + 1) ∷ bs else 49 ∷ b ∷ bs

abbrev pub rank_text : List ℕ → List ℕ
rank_text [] = []
rank_text (cell ∷ cells) =
    if cell == 0 then with_gap (rank_text cells) else letter_of cell ∷ rank_text cells

-- the cells of a rank; ranks are counted from 0
abbrev pub row : List ℕ → ℕ → List ℕ
row cells rank = take 8 (drop (8 * rank) cells)

-- the ranks from this one down, with a slash between them
unfoldable pub ranks_text : List ℕ → ℕ → List ℕ
ranks_text cells zero = rank_text (row cells 0)
ranks_text cells (suc rank) = rank_text (row cells (suc rank)) ++ 47 ∷ ranks_text cells rank

abbrev pub placement_text : List ℕ → List ℕ
placement_text cells = ranks_text cells 7

abbrev pub turn_text : Colour → List ℕ
turn_text White = codes "w"
turn_text Black = codes "b"

abbrev pub target_text : Option ℕ → List ℕ
target_text None = codes "-"
target_text (Some t) = file_letter t ∷ rank_digit t ∷ []

-- the six fields, with a space between each two
unfoldable pub fen_text : Board → List ℕ
fen_text p =
    join_with_byte 32
    (placement_text p.cells ∷ turn_text p.turn ∷ codes "-"
    ∷ target_text p.ep ∷ codes "0" ∷ codes "1" ∷ [])
