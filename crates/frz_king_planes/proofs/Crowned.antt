-- What stands where on a board with kings.
use Rattle.std.proofs.Common.{◌≡◌, ◌≢◌, ℕ, ◌<◌, true, ◌&&◌, not, length, slice_index, slice_set, length-set, get_or-set_same, get_or-set_other, sym, ◌∙◌, arith}
use Rattle.std.specs.Prelude.{◌==◌}
use Rattle.std.proofs.lemmas.Bool.{eqb-true, and_parts}
use Rattle.frz_board.specs.declared.man.Colour.{Colour}
use Rattle.frz_board.specs.declared.man.Colour.TheVariants.{White, Black}
use Rattle.frz_board.specs.Boards.{Board, is_empty}
use Rattle.frz_board.specs.Men.{other_of}
use Rattle.frz_squares.proofs.Lemmas.{not_same}
use Rattle.frz_king_planes.specs.Kings.{are_free, king_cell, king_square, with_kings}

-- q is p with the colour's king on s and the other king on t, both empty on p
pub record Crowned (p q : Board) (c : Colour) (s t : ℕ) : Type 0 where
  pub own : slice_index q.cells s ≡ king_cell c
  pub other : slice_index q.cells t ≡ king_cell (other_of c)
  pub rest : (k : ℕ) → k ≢ s → k ≢ t → slice_index q.cells k ≡ slice_index p.cells k
  pub own_empty : slice_index p.cells s ≡ 0
  pub other_empty : slice_index p.cells t ≡ 0
  pub apart : s ≢ t

-- what free squares are
pub record Free (p : Board) (a b : ℕ) : Type 0 where
  pub white : slice_index p.cells a ≡ 0
  pub black : slice_index p.cells b ≡ 0
  pub apart : a ≢ b

pub free_parts : (p : Board) (a b : ℕ) → are_free p a b ≡ true → Free p a b
free_parts p a b h =
    let parts = and_parts (not (a == b)) (is_empty p a && is_empty p b) h in
    let both = and_parts (is_empty p a) (is_empty p b) parts.1 in
    record {
      white = eqb-true (slice_index p.cells a) 0 both.0;
      black = eqb-true (slice_index p.cells b) 0 both.1;
      apart = not_same a b parts.0;
    }

module _ (p : Board) (a b : ℕ) (la : a < length p.cells) (lb : b < length p.cells) (f : Free p a b)
  where
    white_there : slice_index (with_kings p a b).cells a ≡ king_cell White
    white_there =
        get_or-set_other (slice_set p.cells a (king_cell White)) b a (king_cell Black) 0 f.apart
        ∙ get_or-set_same p.cells a (king_cell White) 0 la

    black_there : slice_index (with_kings p a b).cells b ≡ king_cell Black
    black_there =
        let size = length-set p.cells a (king_cell White) in
        get_or-set_same (slice_set p.cells a (king_cell White)) b (king_cell Black) 0
        (omega (arith, size))

    others : (k : ℕ) → k ≢ a → k ≢ b →
        slice_index (with_kings p a b).cells k ≡ slice_index p.cells k
    others k na nb =
        get_or-set_other (slice_set p.cells a (king_cell White)) b k (king_cell Black) 0 nb
        ∙ get_or-set_other p.cells a k (king_cell White) 0 na

    by_colour : (c : Colour) →
        Crowned p (with_kings p a b) c (king_square c a b) (king_square (other_of c) a b)
    by_colour White = record {
      own = white_there;
      other = black_there;
      rest = others;
      own_empty = f.white;
      other_empty = f.black;
      apart = f.apart;
    }
    by_colour Black = record {
      own = black_there;
      other = white_there;
      rest = λ k nb na. others k na nb;
      own_empty = f.black;
      other_empty = f.white;
      apart = λ e. f.apart (sym e);
    }

-- either colour's view of the board with kings on two free squares
pub crowned : (p : Board) (a b : ℕ) (c : Colour) → length p.cells ≡ 64 → a < 64 → b < 64 →
    are_free p a b ≡ true →
    Crowned p (with_kings p a b) c (king_square c a b) (king_square (other_of c) a b)
crowned p a b c size la lb h =
    by_colour p a b (omega arith) (omega arith) (free_parts p a b h) c
