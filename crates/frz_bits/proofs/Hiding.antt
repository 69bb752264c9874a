-- The squares of a word that a man on a square reaches, by what its lines and its men say.
use Rattle.std.proofs.Common.{◌≡◌, ℕ, ◌+◌, ◌<◌, Bool, true, false, ◌&&◌, ◌||◌, not, refl, ap, ◌∙◌, arith}
use Rattle.std.proofs.Math.Bool.{not-not}
use Rattle.std.specs.Cmp.{both_ways}
use Rattle.std.proofs.lemmas.Bool.Decides.{nat_tests}
use Rattle.std.specs.Prelude.{◌==◌}
use Rattle.frz_board.specs.Attacks.{is_clear, reaches}
use Rattle.frz_board.specs.Boards.{Board, is_empty}
use Rattle.frz_board.specs.Lines.{is_between, is_bishop_line, is_rook_line}
use Rattle.frz_board.specs.Men.{is_pawn}
use Rattle.frz_board.specs.Squares.{files_apart, ranks_apart}
use Rattle.frz_board.specs.declared.man.Colour.{Colour}
use Rattle.frz_board.specs.declared.man.Kind.{Kind}
use Rattle.frz_board.specs.declared.man.Kind.TheVariants.{King, Queen, Rook, Bishop, Knight, Pawn}
use Rattle.frz_squares.proofs.Lemmas.{all_squares-same}
use Rattle.frz_squares.specs.SquareSets.{has_square, set_of}
use Rattle.frz_bits.specs.Rays.{is_open}
use Rattle.frz_bits.proofs.Gather.{in_set}
use Rattle.frz_bits.proofs.Reaching.{bishop_back, files_back, knight_back, ranks_back, rook_back}

-- a line is open on the word of the occupied squares exactly where it is clear on the board
pub open_clear : (p : Board) (w a b : ℕ) → w ≡ set_of (λ s. not (is_empty p s)) →
    is_open w a b ≡ is_clear p a b
open_clear p w a b e =
    all_squares-same (λ s. not (is_between a s b) || not (has_square w s))
    (λ s. not (is_between a s b) || is_empty p s)
    (λ s l. ap (λ x. not (is_between a s b) || x)
    (ap not (in_set (λ s. not (is_empty p s)) w s e l) ∙ not-not (is_empty p s)))

and_joined : (a b c : Bool) → ((a && b) && c) ≡ (a && (b && c))
and_joined true b c = refl
and_joined false b c = refl

-- m has the squares of w that are in v, the set of f
pub step_kept : (f : ℕ → Bool) (w v m b : ℕ) → v ≡ set_of f → b < 64 →
    has_square m b ≡ (has_square w b && has_square v b) →
    has_square m b ≡ (has_square w b && f b)
step_kept f w v m b e l h = h ∙ ap (λ x. has_square w b && x) (in_set f v b e l)

-- u has those of them that pass g too
pub line_kept : (f g : ℕ → Bool) (w v m u b : ℕ) → v ≡ set_of f → b < 64 →
    has_square m b ≡ (has_square w b && has_square v b) →
    u ≡ set_of (λ b. has_square m b && g b) →
    has_square u b ≡ (has_square w b && (f b && g b))
line_kept f g w v m u b e l h k =
    in_set (λ b. has_square m b && g b) u b k l
    ∙ ap (λ x. x && g b) (step_kept f w v m b e l h)
    ∙ and_joined (has_square w b) (f b) (g b)

-- what is_between asks of two squares and one between them, by their files and ranks apart: those
-- of the two, of the first and the one between, of that one and the second
abbrev is_within : (a s b f g h q r t : ℕ) → Bool
is_within a s b f g h q r t =
    (not (s == a) && not (s == b)) && (g + h == f && r + t == q)
    && (((not (a == b) && (f == 0 || q == 0)) && (not (a == s) && (g == 0 || r == 0)))
    || ((not (a == b) && f == q) && (not (a == s) && g == r)))

within_then : (a s b f g h q r t : ℕ) → is_within a s b f g h q r t ≡ true →
    is_within b s a f h g q t r ≡ true
within_then a s b f g h q r t e = grind (arith, nat_tests)

within_back : (a s b f g h q r t : ℕ) → is_within a s b f g h q r t ≡ is_within b s a f h g q t r
within_back a s b f g h q r t =
    both_ways (is_within a s b f g h q r t) (is_within b s a f h g q t r)
    (within_then a s b f g h q r t) (within_then b s a f h g q t r)

between_back : (a s b : ℕ) → is_between a s b ≡ is_between b s a
between_back a s b =
    within_back a s b (files_apart a b) (files_apart a s) (files_apart s b) (ranks_apart a b)
    (ranks_apart a s) (ranks_apart s b)
    ∙ rw (
      files_back a b,
      files_back a s,
      files_back s b,
      ranks_back a b,
      ranks_back a s,
      ranks_back s b,
    ) refl

clear_back : (p : Board) (a b : ℕ) → is_clear p a b ≡ is_clear p b a
clear_back p a b =
    all_squares-same (λ s. not (is_between a s b) || is_empty p s)
    (λ s. not (is_between b s a) || is_empty p s)
    (λ s l. ap (λ x. not x || is_empty p s) (between_back a s b))

-- a man that is no pawn reaches b from a where it reaches a from b
pub reaches_back : (p : Board) (c : Colour) (k : Kind) (a b : ℕ) → is_pawn k ≡ false →
    reaches p c k a b ≡ reaches p c k b a
reaches_back p c King a b e = rw (files_back a b, ranks_back a b) refl
reaches_back p c Queen a b e =
    ap (λ t. (is_rook_line a b || is_bishop_line a b) && t) (clear_back p a b)
    ∙ ap (λ t. (t || is_bishop_line a b) && is_clear p b a) (rook_back a b)
    ∙ ap (λ t. (is_rook_line b a || t) && is_clear p b a) (bishop_back a b)
reaches_back p c Rook a b e =
    ap (λ t. is_rook_line a b && t) (clear_back p a b)
    ∙ ap (λ t. t && is_clear p b a) (rook_back a b)
reaches_back p c Bishop a b e =
    ap (λ t. is_bishop_line a b && t) (clear_back p a b)
    ∙ ap (λ t. t && is_clear p b a) (bishop_back a b)
reaches_back p c Knight a b e = knight_back a b
reaches_back p c Pawn a b e = cc
