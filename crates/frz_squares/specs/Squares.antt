-- The squares of the board: 0 is a1, 1 is b1, 7 is h1, 63 is h8.
use Rattle.std.specs.Prelude.{ℕ, ◌+◌, ◌-◌, ◌/◌, ◌%◌, Bool, ◌==◌, ◌&&◌, max, List}
use Rattle.std.specs.List.{range_with_len}

-- the squares in order, 0 to 63 (FIDE 2.1)
unfoldable pub squares : List ℕ
squares = range_with_len 0 64

-- the file, 0 for a to 7 for h (FIDE 2.4)
abbrev pub file_of : ℕ → ℕ
file_of s = s % 8

-- the rank less 1, 0 to 7 (FIDE 2.4)
abbrev pub rank_of : ℕ → ℕ
rank_of s = s / 8

-- how far two numbers are from each other
abbrev pub apart : ℕ → ℕ → ℕ
apart m n = (m - n) + (n - m)

abbrev pub files_apart : ℕ → ℕ → ℕ
files_apart a b = apart (file_of a) (file_of b)

abbrev pub ranks_apart : ℕ → ℕ → ℕ
ranks_apart a b = apart (rank_of a) (rank_of b)

-- the greater of the files and the ranks that two squares are apart
abbrev pub distance : ℕ → ℕ → ℕ
distance a b = max (files_apart a b) (ranks_apart a b)

-- two squares of one rank and adjoining files
abbrev pub is_beside : ℕ → ℕ → Bool
is_beside a b = ranks_apart a b == 0 && files_apart a b == 1
