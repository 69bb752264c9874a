-- No pawn stands on the first or the last rank where their squares are none of the pawns' words.
use Rattle.std.proofs.Common.{◌≡◌, ℕ, Bool, true, false, ◌&&◌, ◌||◌, not, refl, ap, ◌∙◌, bit_and, bit_or}
use Rattle.std.specs.Prelude.{◌==◌}
use Rattle.frz_board.specs.declared.man.Colour.TheVariants.{White, Black}
use Rattle.frz_board.specs.declared.man.Kind.TheVariants.{Pawn}
use Rattle.frz_board.specs.Boards.{Board, has}
use Rattle.frz_board.specs.Shapes.{is_end, has_pawn, has_pawns_inside}
use Rattle.frz_bits.specs.declared.shape.TheConstants.{END_RANKS}
use Rattle.frz_squares.specs.SquareSets.{has_square, set_of}
use Rattle.frz_squares.proofs.Lemmas.{all_squares-same, apart_sets, has-set_of, set_of-small, union}

ends_are : END_RANKS ≡ set_of is_end
unfolding set_of
ends_are = refl

pawns_are : (p : Board) (white black : ℕ) → white ≡ set_of (λ s. has p White Pawn s) →
    black ≡ set_of (λ s. has p Black Pawn s) → bit_or white black ≡ set_of (has_pawn p)
pawns_are p white black w b =
    ap (λ x. bit_or x black) w
    ∙ ap (bit_or (set_of (λ s. has p White Pawn s))) b
    ∙ union (λ s. has p White Pawn s) (λ s. has p Black Pawn s)

not_both : (x y : Bool) → (not x || not y) ≡ not (x && y)
not_both true y = refl
not_both false y = refl

pub inside_is : (p : Board) (white black : ℕ) → white ≡ set_of (λ s. has p White Pawn s) →
    black ≡ set_of (λ s. has p Black Pawn s) →
    (bit_and END_RANKS (bit_or white black) == 0) ≡ has_pawns_inside p
unfolding has_pawns_inside
inside_is p white black w b =
    ap (λ x. bit_and x (bit_or white black) == 0) ends_are
    ∙ ap (λ x. bit_and (set_of is_end) x == 0) (pawns_are p white black w b)
    ∙ apart_sets is_end (set_of (has_pawn p)) (set_of-small (has_pawn p))
    ∙ all_squares-same (λ s. not (is_end s) || not (has_square (set_of (has_pawn p)) s))
    (λ s. not (is_end s && has_pawn p s))
    (λ k l. ap (λ x. not (is_end k) || not x) (has-set_of (has_pawn p) k l)
    ∙ not_both (is_end k) (has_pawn p k))
