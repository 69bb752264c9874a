-- What a placement stands for (PGN 16.1.3.1): the ranks 8 down to 1, each from file a to file h.
use Rattle.std.specs.Prelude.{ℕ, zero, suc, ◌+◌, ◌-◌, Bool, ◌==◌, ◌&&◌, ◌||◌, nat_le, List, [], ◌∷◌, length, reverse, replicate, Option, None, Some, is_some, unwrap_or, option_map, if◌then◌else◌}
use Rattle.std.specs.List.{list_all, flat_map}
use Rattle.frz_board.specs.Men.{cell_of_man, man_of_letter}
use Rattle.frz_words.specs.Parts.{split}

-- the cell for the letter of a man
abbrev pub cell_of_letter : ℕ → Option ℕ
cell_of_letter b = option_map cell_of_man (man_of_letter b)

-- a digit 1 to 8, which stands for this many empty squares
abbrev pub is_gap : ℕ → Bool
is_gap b = nat_le 49 b && nat_le b 56

-- the cells that a byte stands for
abbrev pub cells_of : ℕ → List ℕ
cells_of b = if is_gap b then replicate (b - 48) 0 else unwrap_or (cell_of_letter b) 1 ∷ []

-- the cells of a rank, from its text
abbrev pub rank_cells : List ℕ → List ℕ
rank_cells part = flat_map cells_of part

abbrev pub is_gap_or_man : ℕ → Bool
is_gap_or_man b = is_gap b || is_some (cell_of_letter b)

-- digits and letters of men that fill the eight squares of a rank exactly
unfoldable pub is_rank : List ℕ → Bool
is_rank part = list_all is_gap_or_man part && length (rank_cells part) == 8

-- the texts of the ranks, rank 8 first
abbrev pub ranks : List ℕ → List (List ℕ)
ranks field = split (λ b. b == 47) field

-- the texts of the ranks that are still to be read
abbrev pub ranks_left : Option (List ℕ) → List (List ℕ)
ranks_left None = []
ranks_left (Some field) = ranks field

-- the first of the ranks n to 1 whose text is wrong or missing, and 0 where more texts follow
unfoldable pub wrong_rank : ℕ → List (List ℕ) → Option ℕ
wrong_rank zero [] = None
wrong_rank zero (part ∷ parts) = Some 0
wrong_rank (suc n) [] = Some (suc n)
wrong_rank (suc n) (part ∷ parts) = if is_rank part then wrong_rank n parts else Some (suc n)

-- the cells of all ranks, from rank 1 on
abbrev pub board_cells : List (List ℕ) → List ℕ
board_cells parts = flat_map rank_cells (reverse parts)
