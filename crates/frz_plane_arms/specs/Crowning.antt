-- Kings put on a board so that a valid position comes of it.
use Rattle.std.specs.Prelude.{ℕ, ◌≡◌, ◌<◌, Bool, true}
use Rattle.frz_board.specs.Boards.{Board}
use Rattle.frz_fide.specs.Valid.{IsValid}
use Rattle.frz_king_planes.specs.Kings.{are_free, with_kings}

-- the kings make a valid position on these free squares, which are known
pub record MakesValid (knows : ℕ → ℕ → Bool) (q : Board) (a b : ℕ) : Type 0 where
  pub white : a < 64
  pub black : b < 64
  pub known : knows a b ≡ true
  pub free : are_free q a b ≡ true
  pub valid : IsValid (with_kings q a b)

-- they make none on any such squares
abbrev pub HasNoValid : (knows : ℕ → ℕ → Bool) → Board → Type 0
HasNoValid knows q = (a b : ℕ) → MakesValid knows q a b → ⊥
