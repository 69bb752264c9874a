-- The position before or after a step of a valid one is valid, where the king of the side that is
-- not to move then is not attacked.
use Rattle.std.proofs.Common.{◌≡◌, ◌≢◌, ℕ, ◌<◌, Bool, true, false, cond, ◌&&◌, ◌||◌, List, Option, length, slice_index, slice_set, length-set, get_or-set_other, refl, ap, sym, ◌∙◌, arith, inl, inr}
use Rattle.std.specs.Prelude.{◌==◌, count_by, nat_le, not}
use Rattle.std.proofs.lemmas.Bool.{cases_eq}
use Rattle.std.proofs.lemmas.List.Elements.{All-set}
use Rattle.std.proofs.lemmas.List.Sums.{sum_by-set}
use Rattle.frz_board.proofs.Lemmas.{cell-small, cell-some}
use Rattle.frz_board.specs.declared.man.Colour.{Colour}
use Rattle.frz_board.specs.declared.man.Colour.TheVariants.{White, Black}
use Rattle.frz_board.specs.declared.man.Kind.{Kind}
use Rattle.frz_board.specs.declared.man.Kind.TheVariants.{King, Queen, Rook, Bishop, Knight, Pawn}
use Rattle.frz_board.specs.declared.man.Man.{Man}
use Rattle.frz_board.specs.Attacks.{is_in_check}
use Rattle.frz_board.specs.Boards.{Board}
use Rattle.frz_board.specs.EnPassant.{has_target_in_place}
use Rattle.frz_board.specs.Men.{cell_of_man, is_man_of, is_pawn, man_of_cell, other_of}
use Rattle.frz_board.specs.Shapes.{count_of, has_few_men, has_kings, has_pawns_inside, is_end, men_of}
use Rattle.frz_squares.proofs.Lemmas.{all_squares, each_square}
use Rattle.frz_fide.specs.Valid.{IsValid}
use Rattle.frz_index.proofs.Lemmas.{at_from, at_rest, at_to}
use Rattle.frz_index.specs.Stepping.{IsStep, stepped}

abbrev one : (ℕ → Bool) → ℕ → ℕ
one f x = cond (f x) 1 0

count_two : (f : ℕ → Bool) (xs : List ℕ) (a b v : ℕ) → f 0 ≡ false → a < length xs →
    b < length xs → a ≢ b → slice_index xs a ≡ v → slice_index xs b ≡ 0 →
    count_by f (slice_set (slice_set xs a 0) b v) ≡ count_by f xs
count_two f xs a b v h0 la lb ab ea eb =
    let zero : one f 0 ≡ 0 = ap (λ x. cond x 1 0) h0 in
    let first = sum_by-set (one f) xs a 0 0 la in
    let lb' : b < length (slice_set xs a 0) = rw length-set lb in
    let second = sum_by-set (one f) (slice_set xs a 0) b v 0 lb' in
    let ba : b ≢ a = λ w. ab (sym w) in
    let same = ap (one f) (get_or-set_other xs a b 0 0 ba) in
    let from = ap (one f) ea in
    let to = ap (one f) eb in
    omega (arith, zero, first, second, same, from, to)

no_king : (d : Colour) → (0 == cell_of_man (record { colour = d; kind = King })) ≡ false
no_king White = refl
no_king Black = refl

-- a pawn of either side
abbrev is_pawns : ℕ → Bool
is_pawns x =
    x == cell_of_man (record { colour = White; kind = Pawn })
    || x == cell_of_man (record { colour = Black; kind = Pawn })

no_pawn : (c : Colour) (k : Kind) → is_pawn k ≡ false →
    is_pawns (cell_of_man (record { colour = c; kind = k })) ≡ false
no_pawn White King e = refl
no_pawn White Queen e = refl
no_pawn White Rook e = refl
no_pawn White Bishop e = refl
no_pawn White Knight e = refl
no_pawn White Pawn e = cc
no_pawn Black King e = refl
no_pawn Black Queen e = refl
no_pawn Black Rook e = refl
no_pawn Black Bishop e = refl
no_pawn Black Knight e = refl
no_pawn Black Pawn e = cc

not_both : (end b : Bool) → b ≡ false → not (end && b) ≡ true
not_both true false e = refl
not_both false b e = refl
not_both true true e = cc

module _ (q : Board) (man : Man) (a b : ℕ) (target : Option ℕ) (h : IsStep q man a b)
    (v : IsValid q) (piece : is_pawn man.kind ≡ false) where
  abbrev p : Board
  p = stepped q man a b target

  apart : a ≢ b
  apart e =
      let some = cell-some man.colour man.kind in
      let here = ap (slice_index q.cells) e in
      omega (arith, h.stood, h.free, here, some)

  same_count : (f : ℕ → Bool) → f 0 ≡ false → count_by f p.cells ≡ count_by f q.cells
  same_count f none =
      count_two f q.cells a b (cell_of_man man) none (omega (arith, h.size, h.from))
      (omega (arith, h.size, h.to)) apart h.stood h.free

  kings : has_kings p ≡ true
  unfolding has_kings
  kings =
      ap (λ n. n == 1 && count_of p Black King == 1)
      (same_count (λ x. x == cell_of_man (record { colour = White; kind = King })) (no_king White))
      ∙ ap (λ n. count_of q White King == 1 && n == 1)
      (same_count (λ x. x == cell_of_man (record { colour = Black; kind = King })) (no_king Black))
      ∙ v.kings

  men : has_few_men p ≡ true
  unfolding has_few_men men_of
  men =
      ap (λ n. nat_le n 16 && nat_le (men_of p Black) 16)
      (same_count (λ x. is_man_of White (man_of_cell x)) refl)
      ∙ ap (λ n. nat_le (men_of q White) 16 && nat_le n 16)
      (same_count (λ x. is_man_of Black (man_of_cell x)) refl)
      ∙ v.men

  pawns : has_pawns_inside p ≡ true
  unfolding has_pawns_inside
  pawns =
      all_squares (λ s. not (is_end s && is_pawns (slice_index p.cells s)))
      (λ s l. elim (cases_eq s b) [
        | inl e ↦
            not_both (is_end s) (is_pawns (slice_index p.cells s))
            (ap (λ n. is_pawns (slice_index p.cells n)) e ∙ ap is_pawns (at_to q man a b target h)
            ∙ no_pawn man.colour man.kind piece)
        | inr n ↦ elim (cases_eq s a) [
          | inl e ↦
              not_both (is_end s) (is_pawns (slice_index p.cells s))
              (ap (λ n. is_pawns (slice_index p.cells n)) e
              ∙ ap is_pawns (at_from q man a b target h))
          | inr k ↦
              ap (λ x. not (is_end s && is_pawns x)) (at_rest q man a b target h s k n)
              ∙ each_square (λ s. not (is_end s && is_pawns (slice_index q.cells s))) v.pawns s l
        ]
      ])

  pub valid_step : has_target_in_place p ≡ true → is_in_check p (other_of p.turn) ≡ false →
      IsValid p
  valid_step placed safe = record {
    fits = record {
      size = rw (length-set, length-set) v.fits.size;
      men = All-set (λ c. c < 13) (slice_set q.cells a 0) b (cell_of_man man)
          (cell-small man.colour man.kind)
          (All-set (λ c. c < 13) q.cells a 0 (omega arith) v.fits.men);
    };
    kings = kings;
    pawns = pawns;
    men = men;
    target = placed;
    safe = safe;
  }
