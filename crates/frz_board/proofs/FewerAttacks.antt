-- Where more squares are occupied, no man attacks more.
use Rattle.std.proofs.Common.{◌≡◌, ℕ, ◌<◌, Bool, true, ◌&&◌, ◌||◌, not, Option, None, Some, slice_index, ap, sym, ◌∙◌}
use Rattle.frz_board.specs.declared.man.Colour.{Colour}
use Rattle.frz_board.specs.declared.man.Kind.{Kind}
use Rattle.frz_board.specs.declared.man.Kind.TheVariants.{King, Queen, Rook, Bishop, Knight, Pawn}
use Rattle.frz_board.specs.declared.man.Man.{Man}
use Rattle.frz_board.specs.Lines.{is_rook_line, is_bishop_line, is_between}
use Rattle.frz_board.specs.Men.{man_of_cell}
use Rattle.frz_board.specs.Boards.{Board, man_on, is_empty}
use Rattle.frz_board.specs.Attacks.{is_clear, reaches, man_reaches, attacks}
use Rattle.std.proofs.lemmas.Bool.{and_parts, and_from}
use Rattle.frz_squares.proofs.Lemmas.{implied, implies, each_square, all_squares}

-- each square that is empty on q is empty on p
module _ (q p : Board)
    (emptier : (s : ℕ) → s < 64 → is_empty q s ≡ true → is_empty p s ≡ true) where
  clear_too : (a b : ℕ) → is_clear q a b ≡ true → is_clear p a b ≡ true
  clear_too a b h =
      all_squares (λ s. not (is_between a s b) || is_empty p s)
      (λ s l. implies (is_between a s b) (is_empty p s)
      (λ w. emptier s l
      (implied (is_between a s b) (is_empty q s)
      (each_square (λ k. not (is_between a k b) || is_empty q k) h s l) w)))

  along : (x : Bool) (a b : ℕ) → (x && is_clear q a b) ≡ true → (x && is_clear p a b) ≡ true
  along x a b h =
      let parts = and_parts x (is_clear q a b) h in and_from x (is_clear p a b) parts.0
      (clear_too a b parts.1)

  reaches_too : (c : Colour) (k : Kind) (a b : ℕ) → reaches q c k a b ≡ true →
      reaches p c k a b ≡ true
  reaches_too c King a b h = h
  reaches_too c Queen a b h = along (is_rook_line a b || is_bishop_line a b) a b h
  reaches_too c Rook a b h = along (is_rook_line a b) a b h
  reaches_too c Bishop a b h = along (is_bishop_line a b) a b h
  reaches_too c Knight a b h = h
  reaches_too c Pawn a b h = h

  man_reaches_too : (o : Option Man) (a b : ℕ) → man_reaches q o a b ≡ true →
      man_reaches p o a b ≡ true
  man_reaches_too None a b h = h
  man_reaches_too (Some man) a b h = reaches_too man.colour man.kind a b h

  pub attacks_too : (a b : ℕ) → slice_index q.cells a ≡ slice_index p.cells a →
      attacks q a b ≡ true → attacks p a b ≡ true
  attacks_too a b same h =
      ap (λ x. man_reaches p (man_of_cell x) a b) (sym same) ∙ man_reaches_too (man_on q a) a b h
