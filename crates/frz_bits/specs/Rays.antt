-- How far a rook or a bishop attacks over the squares that a word says are occupied.
use Rattle.std.specs.Prelude.{ℕ, Bool, not, ◌&&◌, ◌||◌}
use Rattle.std.specs.List.{list_all}
use Rattle.frz_board.specs.Squares.{squares}
use Rattle.frz_board.specs.Lines.{is_rook_line, is_bishop_line, is_between}
use Rattle.frz_squares.specs.SquareSets.{has_square}

-- no square strictly between a and b is occupied
abbrev pub is_open : ℕ → ℕ → ℕ → Bool
is_open occupied a b = list_all (λ s. not (is_between a s b) || not (has_square occupied s)) squares

-- b is on a rank or file of a, no further than the first occupied square
abbrev pub is_rook_ray : ℕ → ℕ → ℕ → Bool
is_rook_ray occupied a b = is_rook_line a b && is_open occupied a b

-- b is on a diagonal of a, no further than the first occupied square
abbrev pub is_bishop_ray : ℕ → ℕ → ℕ → Bool
is_bishop_ray occupied a b = is_bishop_line a b && is_open occupied a b
