-- The moves of kings, by the pairs of their squares.
use Rattle.std.specs.Prelude.{ℕ, ◌≡◌, ◌<◌, ◌↔◌, ◌&&◌, Bool, true, List, None}
use Rattle.frz_board.specs.declared.man.Colour.{Colour}
use Rattle.frz_board.specs.declared.man.Colour.TheVariants.{White, Black}
use Rattle.frz_board.specs.Boards.{Board, is_empty}
use Rattle.frz_board.specs.Lines.{is_king_step}
use Rattle.frz_board.specs.Men.{other_of}
use Rattle.frz_board.specs.Moving.{Step}
use Rattle.frz_squares.specs.Steps.{any_step}
use Rattle.frz_fide.specs.Legal.{is_legal}
use Rattle.frz_planes.specs.Planes.{has_pair}
use Rattle.frz_king_planes.specs.Kings.{king_square, with_kings}
use Rattle.frz_pair_moves.specs.Moves.{Makes}

-- the king of the side to move goes to s
abbrev pub king_step : Board → (a b s : ℕ) → Step
king_step p a b s = record { from = king_square p.turn a b; to = s; promo = None }

-- the squares of White's king and of Black's after it
abbrev pub white_then : Colour → (a s : ℕ) → ℕ
white_then White a s = s
white_then Black a s = a

abbrev pub black_then : Colour → (b s : ℕ) → ℕ
black_then White b s = b
black_then Black b s = s

-- the king of the side to move is a step from a pair of the plane
abbrev pub steps_into : Colour → List ℕ → (a b : ℕ) → Bool
steps_into c plane a b =
    any_step (king_square c a b) (λ s. has_pair plane (white_then c a s) (black_then c b s))

-- the king of the side to move is a step from s, and the plane has the pair after the step
abbrev pub steps_onto : Colour → (s : ℕ) → List ℕ → (a b : ℕ) → Bool
steps_onto c s plane a b =
    is_king_step s (king_square c a b) && has_pair plane (white_then c a s) (black_then c b s)

-- the same men with the other side to move, and without a target
abbrev pub handed : Board → Board
handed p = record { cells = p.cells; turn = other_of p.turn; ep = None }

-- the king of the side to move has a legal move to an empty square, to a pair of the plane
pub record EntersFrom (p : Board) (plane : List ℕ) (a b : ℕ) : Type 0 where
  pub to : ℕ
  pub on_board : to < 64
  pub empty : is_empty p to ≡ true
  pub legal : is_legal (with_kings p a b) (king_step p a b to) ≡ true
  pub there : has_pair plane (white_then p.turn a to) (black_then p.turn b to) ≡ true

-- the plane has exactly the pairs on which the kings make a valid position in which the king of the
-- side to move may go to s
abbrev pub AreArriving : Board → ℕ → List ℕ → Type 0
AreArriving p s plane =
    (a b : ℕ) → a < 64 → b < 64 →
    (has_pair plane a b ≡ true)
    ↔ (Makes p a b × (is_legal (with_kings p a b) (king_step p a b s) ≡ true))
