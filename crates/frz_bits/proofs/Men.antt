-- The men of the two sides are the men.
use Rattle.std.proofs.Common.{◌≡◌, ℕ, ◌<◌, ◌^◌, ◌&&◌, ◌||◌, not, List, ap, ◌∙◌, arith, slice_index, bit_or, bit_and}
use Rattle.std.specs.Prelude.{◌==◌, nat_lt}
use Rattle.std.proofs.lemmas.Bool.Decides.{nat_tests}
use Rattle.std.proofs.lemmas.Nat.{or_lt}
use Rattle.std.proofs.lemmas.List.Elements.{All-get_or}
use Rattle.frz_board.specs.declared.man.Colour.{Colour}
use Rattle.frz_board.specs.declared.man.Colour.TheVariants.{White, Black}
use Rattle.frz_board.specs.Men.{man_of_cell, is_man_of}
use Rattle.frz_board.specs.Boards.{Board, CellsFit, holds, is_empty}
use Rattle.frz_squares.specs.SquareSets.{set_of, has_square}
use Rattle.std.proofs.Math.Bool.{not-not}
use Rattle.frz_squares.proofs.Lemmas.{all_squares-same, apart_sets, has-or, has-set_of, set_of-from, set_of-small}
use Rattle.frz_bits.specs.Sides.{HasSides}
use Rattle.frz_board.specs.Lines.{is_between}
use Rattle.frz_board.specs.Attacks.{is_clear}

either_side : (x : ℕ) → x < 13 →
    (is_man_of White (man_of_cell x) || is_man_of Black (man_of_cell x)) ≡ not (x == 0)
either_side x h = grind (arith, nat_tests)

pub cell_fits : (p : Board) → CellsFit p.cells → (s : ℕ) → s < 64 → slice_index p.cells s < 13
cell_fits p fits s h =
    let size = fits.size in All-get_or (λ c. c < 13) p.cells s 0 (omega arith) fits.men

side_small : (p : Board) (c : Colour) (w : ℕ) → w ≡ set_of (λ s. holds p c s) → w < 2 ^ 64
side_small p c w e = let small = set_of-small (λ s. holds p c s) in omega arith

pub occupied_is : (p : Board) (white black : ℕ) → HasSides p white black →
    bit_or white black ≡ set_of (λ s. not (is_empty p s))
occupied_is p white black h =
    set_of-from (bit_or white black) (λ s. not (is_empty p s))
    (or_lt 64 white black (side_small p White white h.of_white)
    (side_small p Black black h.of_black))
    (λ k l. has-or white black k
    ∙ ap (λ x. x || has_square black k)
    (ap (λ w. has_square w k) h.of_white ∙ has-set_of (λ s. holds p White s) k l)
    ∙ ap (λ x. holds p White k || x)
    (ap (λ w. has_square w k) h.of_black ∙ has-set_of (λ s. holds p Black s) k l)
    ∙ either_side (slice_index p.cells k) (cell_fits p h.fits k l))

-- no square strictly between is occupied where each is empty
pub clear_is : (p : Board) (a b : ℕ) →
    (bit_and (set_of (λ s. is_between a s b)) (set_of (λ s. not (is_empty p s))) == 0)
    ≡ is_clear p a b
clear_is p a b =
    apart_sets (λ s. is_between a s b) (set_of (λ s. not (is_empty p s)))
    (set_of-small (λ s. not (is_empty p s)))
    ∙ all_squares-same
    (λ s. not (is_between a s b) || not (has_square (set_of (λ s. not (is_empty p s))) s))
    (λ s. not (is_between a s b) || is_empty p s)
    (λ k l. ap (λ x. not (is_between a k b) || x)
    (ap not (has-set_of (λ s. not (is_empty p s)) k l) ∙ not-not (is_empty p k)))

white_cell : (x : ℕ) → x < 13 →
    (nat_lt x 7 && not (nat_lt x 1)) ≡ is_man_of White (man_of_cell x)
white_cell x h = grind (arith, nat_tests)

black_cell : (x : ℕ) → x < 13 →
    (nat_lt x 13 && not (nat_lt x 7)) ≡ is_man_of Black (man_of_cell x)
black_cell x h = grind (arith, nat_tests)

-- the words of the cells of each side's men
pub sides_of : (p : Board) (cells : List ℕ) (white black : ℕ) → cells ≡ p.cells → CellsFit p.cells →
    white < 2 ^ 64 → black < 2 ^ 64 →
    ((k : ℕ) → k < 64 →
    has_square white k ≡ (nat_lt (slice_index cells k) 7 && not (nat_lt (slice_index cells k) 1))) →
    ((k : ℕ) → k < 64 →
    has_square black k
    ≡ (nat_lt (slice_index cells k) 13 && not (nat_lt (slice_index cells k) 7))) →
    HasSides p white black
sides_of p cells white black e fits w b hw hb = record {
  fits = fits;
  of_white =
      set_of-from white (λ s. holds p White s) w (λ k l. hw k l
      ∙ ap (λ xs. nat_lt (slice_index xs k) 7 && not (nat_lt (slice_index xs k) 1)) e
      ∙ white_cell (slice_index p.cells k) (cell_fits p fits k l));
  of_black =
      set_of-from black (λ s. holds p Black s) b (λ k l. hb k l
      ∙ ap (λ xs. nat_lt (slice_index xs k) 13 && not (nat_lt (slice_index xs k) 7)) e
      ∙ black_cell (slice_index p.cells k) (cell_fits p fits k l));
}
