-- The ranks as a side sees them.
use Rattle.std.specs.Prelude.{ℕ, ◌+◌, ◌-◌, Bool, ◌==◌}
use Rattle.frz_squares.specs.Squares.{rank_of}
use Rattle.frz_board.specs.declared.man.Colour.{Colour}
use Rattle.frz_board.specs.declared.man.Colour.TheVariants.{White, Black}

-- b is n ranks forward of a, as the side sees it
abbrev pub is_forward : Colour → ℕ → ℕ → ℕ → Bool
is_forward White n a b = rank_of b == rank_of a + n
is_forward Black n a b = rank_of a == rank_of b + n

-- the square one rank ahead, as the side sees it
abbrev pub ahead : Colour → ℕ → ℕ
ahead White s = s + 8
ahead Black s = s - 8

-- the rank where the side's pawns begin (FIDE 2.3)
abbrev pub is_home : Colour → ℕ → Bool
is_home White s = rank_of s == 1
is_home Black s = rank_of s == 6

-- the rank that the side's pawns pass over when they advance two squares (FIDE 3.7.2)
abbrev pub is_passing_rank : Colour → ℕ → Bool
is_passing_rank White s = rank_of s == 2
is_passing_rank Black s = rank_of s == 5

-- the rank where the side's pawns become something else (FIDE 3.7.3.3)
abbrev pub is_last : Colour → ℕ → Bool
is_last White s = rank_of s == 7
is_last Black s = rank_of s == 0
