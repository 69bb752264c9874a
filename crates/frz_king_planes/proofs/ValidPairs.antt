-- The pairs on which kings make a valid position: those of squares for kings that stand apart, on
-- which the shape is right and the king of the side not to move is not attacked.
use Rattle.std.proofs.Common.{◌≡◌, ◌≢◌, ℕ, ◌<◌, Bool, true, false, ◌&&◌, not, List, length-set, max, slice_index, slice_set, refl, ap, sym, ◌∙◌, inl, inr, arith}
use Rattle.std.specs.Prelude.{◌==◌, nat_le}
use Rattle.std.proofs.lemmas.Bool.{and_from, and_parts, eq-eqb, eqb-true, cases_Bool, false_from_ne_true, true_from_ne_false, not_from_false, or_parts}
use Rattle.std.proofs.lemmas.Bool.Decides.{nat_tests}
use Rattle.std.proofs.lemmas.List.Elements.{All-set}
use Rattle.frz_board.specs.declared.man.Colour.{Colour}
use Rattle.frz_board.specs.declared.man.Colour.TheVariants.{White, Black}
use Rattle.frz_board.specs.declared.man.Kind.TheVariants.{King}
use Rattle.frz_board.specs.Boards.{Board, CellsFit, has}
use Rattle.frz_board.specs.Attacks.{is_attacked, is_in_check}
use Rattle.frz_board.specs.EnPassant.{has_target_in_place}
use Rattle.frz_board.specs.Lines.{is_king_step}
use Rattle.frz_board.specs.Men.{other_of}
use Rattle.frz_board.specs.Shapes.{count_of, has_few_men, has_kings, has_pawns_inside}
use Rattle.frz_board.specs.Squares.{distance, files_apart, ranks_apart}
use Rattle.frz_board.proofs.Lemmas.{cell-small}
use Rattle.frz_squares.proofs.Lemmas.{any_square, some_square}
use Rattle.frz_fide.specs.Valid.{IsValid}
use Rattle.frz_fide.proofs.Lemmas.{one_place}
use Rattle.frz_planes.specs.Planes.{has_pair, IsPlaneOf}
use Rattle.frz_king_planes.specs.Kings.{are_free, king_cell, king_square, with_kings}
use Rattle.frz_king_planes.specs.Attacked.{AreAttacked, is_attacked_past}
use Rattle.frz_king_planes.specs.Room.{are_rooms, is_room}
use Rattle.frz_king_planes.specs.Valid.{AreValid, has_shape}
use Rattle.frz_king_planes.proofs.Crowned.{Crowned, crowned, free_parts}
use Rattle.frz_king_planes.proofs.AttackedPast.{attacked_past, one_square, step_back}
use Rattle.frz_king_planes.proofs.Shaped.{in_rooms, rooms_free}

at_least_two : (f r : ℕ) → (max f r == 1) ≡ false → (f ≡ 0 → r ≡ 0 → ⊥) →
    nat_le 2 (max f r) ≡ true
at_least_two f r h n = grind (arith, nat_tests)

stand_apart : (a b : ℕ) → a ≢ b → is_king_step a b ≡ false → nat_le 2 (distance a b) ≡ true
stand_apart a b ne h =
    at_least_two (files_apart a b) (ranks_apart a b) h (λ f r. ne (sym (one_square a b f r)))

step_of : (c : Colour) (a b : ℕ) →
    is_king_step (king_square c a b) (king_square (other_of c) a b) ≡ is_king_step a b
step_of White a b = refl
step_of Black a b = step_back b a

square_on : (c : Colour) (a b : ℕ) → a < 64 → b < 64 → king_square c a b < 64
square_on White a b la lb = la
square_on Black a b la lb = lb

king_counted : (q : Board) (c : Colour) → has_kings q ≡ true → count_of q c King ≡ 1
unfolding has_kings
king_counted q White h =
    eqb-true (count_of q White King) 1
    (and_parts (count_of q White King == 1) (count_of q Black King == 1) h).0
king_counted q Black h =
    eqb-true (count_of q Black King) 1
    (and_parts (count_of q White King == 1) (count_of q Black King == 1) h).1

module _ (p : Board) (fit : CellsFit p.cells) (a b : ℕ) (la : a < 64) (lb : b < 64)
    (free : are_free p a b ≡ true) where
  abbrev q : Board
  q = with_kings p a b

  fits : CellsFit q.cells
  fits = record {
    size = rw (length-set, length-set) fit.size;
    men = All-set (λ c. c < 13) (slice_set p.cells a (king_cell White)) b (king_cell Black)
        (cell-small Black King)
        (All-set (λ c. c < 13) p.cells a (king_cell White) (cell-small White King) fit.men);
  }

  view : (c : Colour) → Crowned p q c (king_square c a b) (king_square (other_of c) a b)
  view c = crowned p a b c fit.size la lb free

  king_on : (c : Colour) → has q c King (king_square c a b) ≡ true
  king_on c = eq-eqb (slice_index q.cells (king_square c a b)) (king_cell c) (view c).own

  -- a side is in check where its only king is attacked
  unchecked : (c : Colour) → is_in_check q c ≡ false →
      is_attacked q (king_square c a b) (other_of c) ≡ false
  unchecked c safe =
      false_from_ne_true (is_attacked q (king_square c a b) (other_of c))
      (λ e. let check = any_square (λ s. has q c King s && is_attacked q s (other_of c))
      (king_square c a b) (square_on c a b la lb)
      (and_from (has q c King (king_square c a b)) (is_attacked q (king_square c a b) (other_of c))
      (king_on c) e) in cc)

  safe_then : (c : Colour) → has_kings q ≡ true →
      is_attacked q (king_square c a b) (other_of c) ≡ false → is_in_check q c ≡ false
  safe_then c kings calm =
      false_from_ne_true (is_in_check q c)
      (λ e. let king = some_square (λ s. has q c King s && is_attacked q s (other_of c)) e in
      let parts = and_parts (has q c King king.square) (is_attacked q king.square (other_of c))
      king.passes in
      let on = king.on_board in
      let size = fits.size in
      let one = king_counted q c kings in
      let here = square_on c a b la lb in
      let same = one_place (λ x. x == king_cell c) q.cells king.square (king_square c a b)
      (omega arith) (omega arith) (omega arith) parts.0 (king_on c) in
      let hit = ap (λ s. is_attacked q s (other_of c)) (sym same) ∙ parts.1 in cc)

  pub checked : (c : Colour) → has_kings q ≡ true →
      is_in_check q c ≡ is_attacked q (king_square c a b) (other_of c)
  checked c kings =
      elim (cases_Bool (is_in_check q c)) [
        | inl check ↦ check
            ∙ sym (true_from_ne_false (is_attacked q (king_square c a b) (other_of c))
            (λ calm. let safe = safe_then c kings calm in cc))
        | inr safe ↦ safe ∙ sym (unchecked c safe)
      ]

  shape_of_valid : IsValid q → has_shape q ≡ true
  shape_of_valid v =
      and_from (has_kings q && has_pawns_inside q) (has_few_men q && has_target_in_place q)
      (and_from (has_kings q) (has_pawns_inside q) v.kings v.pawns)
      (and_from (has_few_men q) (has_target_in_place q) v.men v.target)

  valid_rooms : IsValid q → are_rooms p a b ≡ true
  valid_rooms v =
      let c : Colour = other_of p.turn in
      let s = king_square c a b in
      let t = king_square (other_of c) a b in
      let calm = unchecked c v.safe in
      let past = sym (attacked_past p q c s t (square_on (other_of c) a b la lb) (view c)) ∙ calm in
      let step = sym (step_of c a b)
      ∙ (or_parts (is_attacked_past p s (other_of c) t) (is_king_step s t) past).1 in
      and_from (is_room p a && is_room p b) (nat_le 2 (distance a b))
      (in_rooms p a b fit.size la lb free v.target)
      (stand_apart a b (free_parts p a b free).apart step)

  valid_then : has_shape q ≡ true →
      is_attacked q (king_square (other_of p.turn) a b) (other_of (other_of p.turn)) ≡ false →
      IsValid q
  valid_then h calm =
      let parts = and_parts (has_kings q && has_pawns_inside q)
      (has_few_men q && has_target_in_place q) h in
      let first = and_parts (has_kings q) (has_pawns_inside q) parts.0 in
      let second = and_parts (has_few_men q) (has_target_in_place q) parts.1 in
      record {
        fits = fits;
        kings = first.0;
        pawns = first.1;
        men = second.0;
        target = second.1;
        safe = safe_then (other_of p.turn) first.0 calm;
      }

-- the pairs of squares for kings that stand apart are all of one shape
module _ (p : Board) (fit : CellsFit p.cells) (pairs : List ℕ) (shaped : Bool)
    (are : IsPlaneOf pairs (are_rooms p))
    (one : (a b : ℕ) → a < 64 → b < 64 → has_pair pairs a b ≡ true →
    shaped ≡ has_shape (with_kings p a b)) where
  there : (a b : ℕ) → a < 64 → b < 64 → are_free p a b ≡ true → IsValid (with_kings p a b) →
      has_pair pairs a b ≡ true
  there a b la lb free v = are a b la lb ∙ valid_rooms p fit a b la lb free v

  pub none_valid : (empty : List ℕ) → shaped ≡ false → IsPlaneOf empty (λ a b. false) →
      AreValid p empty
  none_valid empty unshaped none = record {
    valid = λ a b la lb free. (
      λ h. absurd (let e = none a b la lb in cc),
      λ v. absurd (let shape = shape_of_valid p fit a b la lb free v in
          let same = one a b la lb (there a b la lb free v) in cc),
    );
    free = λ a b la lb h. absurd (let e = none a b la lb in cc);
  }

  module _ (hit left : List ℕ) (good : shaped ≡ true) (hits : AreAttacked p (other_of p.turn) hit)
      (rest : IsPlaneOf left (λ a b. has_pair pairs a b && not (has_pair hit a b))) where
    parts : (a b : ℕ) → a < 64 → b < 64 → has_pair left a b ≡ true →
        (has_pair pairs a b ≡ true) × (not (has_pair hit a b) ≡ true)
    parts a b la lb h =
        and_parts (has_pair pairs a b) (not (has_pair hit a b)) (sym (rest a b la lb) ∙ h)

    valid_left : (a b : ℕ) → a < 64 → b < 64 → are_free p a b ≡ true → has_pair left a b ≡ true →
        IsValid (with_kings p a b)
    valid_left a b la lb free h =
        let both = parts a b la lb h in
        let calm = false_from_ne_true (has_pair hit a b)
        (λ e. let no = ap not e in let yes = both.1 in cc) in
        valid_then p fit a b la lb free (sym (one a b la lb both.0) ∙ good)
        (sym (hits a b la lb free) ∙ calm)

    left_valid : (a b : ℕ) → a < 64 → b < 64 → are_free p a b ≡ true →
        IsValid (with_kings p a b) → has_pair left a b ≡ true
    left_valid a b la lb free v =
        rest a b la lb
        ∙ and_from (has_pair pairs a b) (not (has_pair hit a b)) (there a b la lb free v)
        (not_from_false (has_pair hit a b)
        (hits a b la lb free ∙ unchecked p fit a b la lb free (other_of p.turn) v.safe))

    pub all_valid : AreValid p left
    all_valid = record {
      valid = λ a b la lb free. (valid_left a b la lb free, left_valid a b la lb free);
      free = λ a b la lb h. rooms_free p a b (sym (are a b la lb) ∙ (parts a b la lb h).0);
    }
