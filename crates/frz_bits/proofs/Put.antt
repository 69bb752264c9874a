-- A square's bit after a cell is written.
use Rattle.std.proofs.Common.{◌≡◌, ℕ, ◌*◌, ◌%◌, ◌^◌, ◌<◌, length, Bool, true, false, refl, ap, sym, ◌∙◌, arith, w64, bit_and, bit_or, slice_index, slice_set, length-set, inl, inr}
use Rattle.std.specs.Prelude.{◌==◌, if◌then◌else◌}
use Rattle.std.specs.Int.{bit_not}
use Rattle.std.proofs.lemmas.Nat.Bits.{bit_at_set_same, bit_at_set_other, bit_at_clear_same, bit_at_clear_other}
use Rattle.std.proofs.lemmas.List.Elements.{All-set}
use Rattle.std.proofs.lemmas.Bool.Decides.{eqb_tells}
use Rattle.frz_board.specs.declared.man.Colour.{Colour}
use Rattle.frz_board.specs.declared.man.Colour.TheVariants.{White, Black}
use Rattle.frz_board.specs.Men.{man_of_cell, is_man_of}
use Rattle.frz_board.specs.Boards.{Board, holds}
use Rattle.frz_board.proofs.Lemmas.{set_at}
use Rattle.frz_squares.specs.SquareSets.{has_square, set_of}
use Rattle.frz_squares.proofs.Lemmas.{has-set_of, set_of-from}
use Rattle.frz_bits.specs.Sides.{HasSides}

pub put_in : (w s k : ℕ) → s < 64 → k < 64 →
    has_square (bit_or w (1 * 2 ^ s % 2 ^ 64)) k ≡ (if k == s then true else has_square w k)
put_in w s k ls lk =
    elim (eqb_tells k s) [
      | inl e ↦
          ap (λ i. has_square (bit_or w (1 * 2 ^ s % 2 ^ 64)) i) e.1
          ∙ ap (λ b. b == 1) (bit_at_set_same w64 w s ls)
          ∙ sym (ap (λ x. if x then true else has_square w k) e.0)
      | inr e ↦
          ap (λ b. b == 1) (bit_at_set_other w64 w s ls k e.1)
          ∙ sym (ap (λ x. if x then true else has_square w k) e.0)
    ]

pub taken_out : (w s k : ℕ) → s < 64 → k < 64 →
    has_square (bit_and w (bit_not w64 (1 * 2 ^ s % 2 ^ 64))) k
    ≡ (if k == s then false else has_square w k)
taken_out w s k ls lk =
    elim (eqb_tells k s) [
      | inl e ↦
          ap (λ i. has_square (bit_and w (bit_not w64 (1 * 2 ^ s % 2 ^ 64))) i) e.1
          ∙ ap (λ b. b == 1) (bit_at_clear_same w64 w s ls)
          ∙ sym (ap (λ x. if x then false else has_square w k) e.0)
      | inr e ↦
          ap (λ b. b == 1) (bit_at_clear_other w64 w s ls k lk e.1)
          ∙ sym (ap (λ x. if x then false else has_square w k) e.0)
    ]

man_of_either : (t : Bool) (c : Colour) (v x : ℕ) →
    is_man_of c (man_of_cell (if t then v else x))
    ≡ (if t then is_man_of c (man_of_cell v) else is_man_of c (man_of_cell x))
man_of_either true c v x = refl
man_of_either false c v x = refl

side_put : (p : Board) (c : Colour) (w s v r : ℕ) → length p.cells ≡ 64 → s < 64 →
    w ≡ set_of (λ k. holds p c k) → r < 2 ^ 64 →
    ((k : ℕ) → k < 64 →
    has_square r k ≡ (if k == s then is_man_of c (man_of_cell v) else has_square w k)) →
    r ≡ set_of (λ k. holds (record p { cells = slice_set p.cells s v }) c k)
side_put p c w s v r size ls e small h =
    set_of-from r (λ k. holds (record p { cells = slice_set p.cells s v }) c k) small
    (λ k l. h k l
    ∙ ap (λ x. if k == s then is_man_of c (man_of_cell v) else x)
    (ap (λ u. has_square u k) e ∙ has-set_of (λ j. holds p c j) k l)
    ∙ sym (ap (λ x. is_man_of c (man_of_cell x)) (set_at p.cells s v k (omega arith))
    ∙ man_of_either (k == s) c v (slice_index p.cells k)))

pub put_keeps : (p : Board) (white black s v r q : ℕ) → HasSides p white black → s < 64 → v < 13 →
    r < 2 ^ 64 → q < 2 ^ 64 →
    ((k : ℕ) → k < 64 →
    has_square r k ≡ (if k == s then is_man_of White (man_of_cell v) else has_square white k)) →
    ((k : ℕ) → k < 64 →
    has_square q k ≡ (if k == s then is_man_of Black (man_of_cell v) else has_square black k)) →
    HasSides (record p { cells = slice_set p.cells s v }) r q
put_keeps p white black s v r q h ls lv lr lq hr hq = record {
  fits =
      record {
        size = rw length-set h.fits.size;
        men = All-set (λ c. c < 13) p.cells s v lv h.fits.men;
      };
  of_white = side_put p White white s v r h.fits.size ls h.of_white lr hr;
  of_black = side_put p Black black s v q h.fits.size ls h.of_black lq hq;
}
