-- A man that comes to a square, and is no king, leaves its king as safe as it was.
use Rattle.std.proofs.Common.{◌≡◌, ℕ, length, Bool, true, false, ◌&&◌, Option, None, Some, slice_index, slice_set, get_or-set_same, get_or-set_other, refl, ap, sym, ◌∙◌, inl, inr}
use Rattle.std.specs.Prelude.{◌==◌}
use Rattle.std.proofs.lemmas.Bool.{eqb-true, cases_eq, cases_lt, and_parts, and_from, false_from_ne_true}
use Rattle.std.proofs.lemmas.List.{set_past}
use Rattle.frz_board.specs.declared.man.Colour.{Colour}
use Rattle.frz_board.specs.declared.man.Colour.TheVariants.{White, Black}
use Rattle.frz_board.specs.declared.man.Kind.TheVariants.{King}
use Rattle.frz_board.specs.declared.man.Man.{Man}
use Rattle.frz_board.specs.Men.{other_of, same_colour, is_man_of, cell_of_man, man_of_cell}
use Rattle.frz_board.specs.Boards.{Board, holds, has}
use Rattle.frz_board.specs.Attacks.{attacks, is_attacked, is_in_check}
use Rattle.frz_squares.proofs.Lemmas.{some_square, any_square}
use Rattle.frz_board.proofs.FewerAttacks.{attacks_too}

other_side : (c d : Colour) → same_colour d c ≡ true → same_colour d (other_of c) ≡ false
other_side White White h = refl
other_side White Black h = cc
other_side Black White h = cc
other_side Black Black h = refl

-- a man of one side is not of the other
pub one_side : (c : Colour) (o : Option Man) → is_man_of c o ≡ true →
    is_man_of (other_of c) o ≡ false
one_side c None h = refl
one_side c (Some man) h = other_side c man.colour h

module _ (p : Board) (c : Colour) (b v : ℕ) (own : is_man_of c (man_of_cell v) ≡ true)
    (piece : (v == cell_of_man (record { colour = c; kind = King })) ≡ false) where
  abbrev filled : Board
  filled = record p { cells = slice_set p.cells b v }

  -- a cell that passes a test which the new one fails is as it was
  was : (t : ℕ → Bool) → t v ≡ false → (s : ℕ) → t (slice_index filled.cells s) ≡ true →
      slice_index filled.cells s ≡ slice_index p.cells s
  was t out s h =
      elim (cases_eq s b) [
        | inr other ↦ get_or-set_other p.cells b s v 0 other
        | inl e ↦ elim (cases_lt b (length p.cells)) [
          | inl on ↦ (let new : slice_index filled.cells s ≡ v = ap (slice_index filled.cells) e
              ∙ get_or-set_same p.cells b v 0 on in let same = ap t new in cc)
          | inr past ↦ ap (λ xs. slice_index xs s) (set_past p.cells b v past)
        ]
      ]

  full : (v == 0) ≡ false
  full =
      false_from_ne_true (v == 0)
      (λ e. let none = ap (λ x. is_man_of c (man_of_cell x)) (eqb-true v 0 e) in cc)

  pub no_new_check : is_in_check p c ≡ false → is_in_check filled c ≡ false
  no_new_check safe =
      false_from_ne_true (is_in_check filled c) (λ e.
      let king = some_square (λ s. has filled c King s && is_attacked filled s (other_of c)) e in
      let here = and_parts (has filled c King king.square)
      (is_attacked filled king.square (other_of c)) king.passes in
      let man = some_square (λ a. holds filled (other_of c) a && attacks filled a king.square)
      here.1 in
      let hit = and_parts (holds filled (other_of c) man.square)
      (attacks filled man.square king.square) man.passes in
      let same_king = was (λ x. x == cell_of_man (record { colour = c; kind = King })) piece
      king.square here.0 in
      let same_man = was (λ x. is_man_of (other_of c) (man_of_cell x))
      (one_side c (man_of_cell v) own) man.square hit.0 in
      let before : attacks p man.square king.square ≡ true =
      attacks_too filled p
      (λ s l empty. ap (λ x. x == 0) (sym (was (λ x. x == 0) full s empty)) ∙ empty) man.square
      king.square same_man hit.1 in
      let attacked : is_attacked p king.square (other_of c) ≡ true =
      any_square (λ a. holds p (other_of c) a && attacks p a king.square) man.square man.on_board
      (and_from (holds p (other_of c) man.square) (attacks p man.square king.square)
      (ap (λ x. is_man_of (other_of c) (man_of_cell x)) (sym same_man) ∙ hit.0) before) in
      let check : is_in_check p c ≡ true =
      any_square (λ s. has p c King s && is_attacked p s (other_of c)) king.square king.on_board
      (and_from (has p c King king.square) (is_attacked p king.square (other_of c))
      (ap (λ x. x == cell_of_man (record { colour = c; kind = King })) (sym same_king) ∙ here.0)
      attacked) in
      cc)
