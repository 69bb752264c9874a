-- Legal moves with kings put on a board.
use Rattle.std.specs.Prelude.{ℕ, ◌≡◌, ◌<◌, ◌↔◌, true, false, List, None, slice_set}
use Rattle.frz_board.specs.Boards.{Board, holds}
use Rattle.frz_board.specs.Lines.{is_king_step}
use Rattle.frz_board.specs.Men.{other_of}
use Rattle.frz_board.specs.Moving.{Step}
use Rattle.frz_fide.specs.Legal.{is_legal}
use Rattle.frz_fide.specs.Valid.{IsValid}
use Rattle.frz_planes.specs.Planes.{has_pair}
use Rattle.frz_king_planes.specs.Kings.{are_free, with_kings}

-- the squares are free, and the kings make a valid position on them
pub record Makes (p : Board) (a b : ℕ) : Type 0 where
  pub free : are_free p a b ≡ true
  pub valid : IsValid (with_kings p a b)

-- a king goes from the one square to the other, where no man of the side to move stands
pub record IsKingMove (p : Board) (m : Step) : Type 0 where
  pub promo : m.promo ≡ None
  pub step : is_king_step m.from m.to ≡ true
  pub free : holds p p.turn m.to ≡ false

-- what a king that goes to s leaves of the other men: one that stood there is captured. The other
-- side is to move.
abbrev pub entered : Board → (s : ℕ) → Board
entered p s = record { cells = slice_set p.cells s 0; turn = other_of p.turn; ep = None }

-- the plane has exactly the pairs on which the kings make a valid position in which the move is
-- legal
abbrev pub AreLegal : Board → Step → List ℕ → Type 0
AreLegal p m plane =
    (a b : ℕ) → a < 64 → b < 64 →
    (has_pair plane a b ≡ true) ↔ (Makes p a b × (is_legal (with_kings p a b) m ≡ true))
