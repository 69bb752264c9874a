-- How two squares lie to each other.
use Rattle.std.specs.Prelude.{not, ℕ, ◌+◌, Bool, ◌==◌, ◌&&◌, ◌||◌}
use Rattle.frz_board.specs.Squares.{files_apart, ranks_apart, distance}

-- two files and one rank apart, or one file and two ranks (FIDE 3.6)
abbrev pub is_knight_jump : ℕ → ℕ → Bool
is_knight_jump a b =
    (files_apart a b == 1 && ranks_apart a b == 2) || (files_apart a b == 2 && ranks_apart a b == 1)

-- two adjoining squares (FIDE 3.8)
abbrev pub is_king_step : ℕ → ℕ → Bool
is_king_step a b = distance a b == 1

-- two different squares of one file or one rank (FIDE 3.3)
abbrev pub is_rook_line : ℕ → ℕ → Bool
is_rook_line a b = not (a == b) && (files_apart a b == 0 || ranks_apart a b == 0)

-- two different squares of one diagonal (FIDE 3.2)
abbrev pub is_bishop_line : ℕ → ℕ → Bool
is_bishop_line a b = not (a == b) && files_apart a b == ranks_apart a b

-- s stands strictly between a and b, on the line from one to the other (FIDE 3.5)
abbrev pub is_between : ℕ → ℕ → ℕ → Bool
is_between a s b =
    (not (s == a) && not (s == b))
    && (files_apart a s + files_apart s b == files_apart a b
    && ranks_apart a s + ranks_apart s b == ranks_apart a b)
    && ((is_rook_line a b && is_rook_line a s) || (is_bishop_line a b && is_bishop_line a s))
