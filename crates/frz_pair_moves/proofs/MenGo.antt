-- A man that is no king goes alike on a board with kings and on the board without them, where
-- neither king stands on its way.
use Rattle.std.proofs.Common.{◌≡◌, ◌≢◌, ℕ, ◌<◌, Bool, true, false, ◌&&◌, ◌||◌, not, Option, None, Some, length, slice_index, refl, ap, sym, ◌∙◌, inl, inr}
use Rattle.std.specs.Prelude.{◌==◌}
use Rattle.std.proofs.lemmas.Bool.{and_from, and_parts, both_ways, cases_Bool, cases_eq, eq-eqb, eqb-true, false_from_ne_true, not_from_false, or_cases, or_from}
use Rattle.frz_board.specs.declared.man.Colour.{Colour}
use Rattle.frz_board.specs.declared.man.Colour.TheVariants.{White, Black}
use Rattle.frz_board.specs.declared.man.Kind.{Kind}
use Rattle.frz_board.specs.declared.man.Kind.TheVariants.{King, Queen, Rook, Bishop, Knight, Pawn}
use Rattle.frz_board.specs.declared.man.Man.{Man}
use Rattle.frz_board.specs.Attacks.{is_clear, pawn_reaches}
use Rattle.frz_board.specs.Boards.{Board, has, holds, is_empty, man_on}
use Rattle.frz_board.specs.Lines.{is_between, is_bishop_line, is_rook_line}
use Rattle.frz_board.specs.Men.{is_man_of, man_of_cell, other_of}
use Rattle.frz_board.specs.Moving.{Step}
use Rattle.frz_board.specs.Squares.{files_apart, is_forward}
use Rattle.frz_squares.proofs.Lemmas.{all_squares-same, each_square, implied}
use Rattle.frz_fide.specs.Legal.{advances, can_go, captures, goes, is_home, is_target, man_goes, passed_over, promotes, steps, takes_in_passing}
use Rattle.frz_fide.specs.Valid.{IsValid}
use Rattle.frz_fide.proofs.Lemmas.{Move, no_king_there}
use Rattle.frz_king_planes.specs.Kings.{are_free, king_cell, with_kings}
use Rattle.frz_king_planes.proofs.Lemmas.{Crowned, crowned}
use Rattle.frz_pair_moves.specs.Ways.{is_on_way, leave_way}
use Rattle.frz_pair_moves.proofs.Between.{king_past, knight_past, only_passed, passed_between, pawn_past, straight_past}

-- no square with a man lies between two, where a man goes from the one to the other
module _ (q : Board) (s : ℕ) (ls : s < 64) (full : is_empty q s ≡ false) where
  shut : (x y : ℕ) → is_clear q x y ≡ true → is_between x s y ≡ false
  shut x y h =
      false_from_ne_true (is_between x s y)
      (λ e. both_ways (is_empty q s) full (implied (is_between x s y) (is_empty q s)
      (each_square (λ k. not (is_between x k y) || is_empty q k) h s ls) e))

  not_passed : (c : Colour) (x y : ℕ) → advances q c x y ≡ true → is_between x s y ≡ false
  not_passed c x y h =
      let parts = and_parts (is_home c x && (files_apart x y == 0 && is_forward c 2 x y))
      (is_empty q y && is_empty q (passed_over x y)) h in
      let ranks = (and_parts (is_home c x) (files_apart x y == 0 && is_forward c 2 x y) parts.0).1 in
      let empty = (and_parts (is_empty q y) (is_empty q (passed_over x y)) parts.1).1 in
      false_from_ne_true (is_between x s y)
      (λ e. both_ways (is_empty q s) full
      (ap (is_empty q) (only_passed c x s y ranks e) ∙ empty))

  pawn_clear : (c : Colour) (x y : ℕ) → goes q c Pawn x y ≡ true → is_between x s y ≡ false
  pawn_clear c x y h =
      elim (or_cases (captures q c x y || steps q c x y)
      (advances q c x y || takes_in_passing q c x y) h) [
        | inl u ↦ elim (or_cases (captures q c x y) (steps q c x y) u) [
          | inl e ↦ pawn_past c x s y (and_parts (pawn_reaches c x y) (holds q (other_of c) y) e).0
          | inr e ↦ straight_past c x s y
              (and_parts (files_apart x y == 0 && is_forward c 1 x y) (is_empty q y) e).0
        ]
        | inr u ↦ elim (or_cases (advances q c x y) (takes_in_passing q c x y) u) [
          | inl e ↦ not_passed c x y e
          | inr e ↦ pawn_past c x s y (and_parts (pawn_reaches c x y) (is_target q.ep y) e).0
        ]
      ]

  pub goes_clear : (c : Colour) (k : Kind) (x y : ℕ) → goes q c k x y ≡ true →
      is_between x s y ≡ false
  goes_clear c King x y h = king_past x s y h
  goes_clear c Queen x y h =
      shut x y (and_parts (is_rook_line x y || is_bishop_line x y) (is_clear q x y) h).1
  goes_clear c Rook x y h = shut x y (and_parts (is_rook_line x y) (is_clear q x y) h).1
  goes_clear c Bishop x y h = shut x y (and_parts (is_bishop_line x y) (is_clear q x y) h).1
  goes_clear c Knight x y h = knight_past x s y h
  goes_clear c Pawn x y h = pawn_clear c x y h

module _ (p : Board) (a b : ℕ) (size : length p.cells ≡ 64) (la : a < 64) (lb : b < 64)
    (free : are_free p a b ≡ true) where
  abbrev pub q : Board
  q = with_kings p a b

  pub w : Crowned p (with_kings p a b) White a b
  w = crowned p a b White size la lb free

  -- a man of the board stands on neither king's square
  pub not_white : (c : Colour) (s : ℕ) → holds p c s ≡ true → s ≢ a
  not_white c s h e =
      both_ways (holds p c a) (ap (λ x. is_man_of c (man_of_cell x)) w.own_empty)
      (ap (holds p c) (sym e) ∙ h)

  pub not_black : (c : Colour) (s : ℕ) → holds p c s ≡ true → s ≢ b
  not_black c s h e =
      both_ways (holds p c b) (ap (λ x. is_man_of c (man_of_cell x)) w.other_empty)
      (ap (holds p c) (sym e) ∙ h)

  -- from x to y, with neither king on y or between
  module _ (x y : ℕ) (ya : y ≢ a) (yb : y ≢ b) (na : is_between x a y ≡ false)
      (nb : is_between x b y ≡ false) where
    clear_same : is_clear q x y ≡ is_clear p x y
    clear_same =
        all_squares-same (λ s. not (is_between x s y) || is_empty q s)
        (λ s. not (is_between x s y) || is_empty p s)
        (λ s l. elim (cases_eq s a) [
          | inl e ↦
              let off : is_between x s y ≡ false = ap (λ j. is_between x j y) e ∙ na in
              ap (λ t. not t || is_empty q s) off ∙ sym (ap (λ t. not t || is_empty p s) off)
          | inr sa ↦ elim (cases_eq s b) [
            | inl e ↦
                let off : is_between x s y ≡ false = ap (λ j. is_between x j y) e ∙ nb in
                ap (λ t. not t || is_empty q s) off ∙ sym (ap (λ t. not t || is_empty p s) off)
            | inr sb ↦ ap (λ v. not (is_between x s y) || (v == 0)) (w.rest s sa sb)
          ]
        ])

    over_same : (c : Colour) → (e : Bool) →
        ((is_home c x && (files_apart x y == 0 && is_forward c 2 x y))
        && (e && is_empty q (passed_over x y)))
        ≡ ((is_home c x && (files_apart x y == 0 && is_forward c 2 x y))
        && (e && is_empty p (passed_over x y)))
    over_same c e =
        let ranks = λ (h : (is_home c x && (files_apart x y == 0 && is_forward c 2 x y)) ≡ true).
        (and_parts (is_home c x) (files_apart x y == 0 && is_forward c 2 x y) h).1 in
        elim (cases_Bool (is_home c x && (files_apart x y == 0 && is_forward c 2 x y))) [
          | inl h ↦
              ap (λ v. (is_home c x && (files_apart x y == 0 && is_forward c 2 x y))
              && (e && (v == 0)))
              (w.rest (passed_over x y)
              (λ s. both_ways (is_between x a y) na
              (ap (λ j. is_between x j y) (sym s) ∙ passed_between c x y (ranks h)))
              (λ s. both_ways (is_between x b y) nb
              (ap (λ j. is_between x j y) (sym s) ∙ passed_between c x y (ranks h))))
          | inr h ↦ ap (λ t. t && (e && is_empty q (passed_over x y))) h
              ∙ sym (ap (λ t. t && (e && is_empty p (passed_over x y))) h)
        ]

    pub advances_same : (c : Colour) → advances q c x y ≡ advances p c x y
    advances_same c =
        over_same c (is_empty q y)
        ∙ ap (λ v. (is_home c x && (files_apart x y == 0 && is_forward c 2 x y))
        && ((v == 0) && is_empty p (passed_over x y))) (w.rest y ya yb)

    captures_same : (c : Colour) → captures q c x y ≡ captures p c x y
    captures_same c =
        ap (λ v. pawn_reaches c x y && is_man_of (other_of c) (man_of_cell v)) (w.rest y ya yb)

    steps_same : (c : Colour) → steps q c x y ≡ steps p c x y
    steps_same c =
        ap (λ v. (files_apart x y == 0 && is_forward c 1 x y) && (v == 0)) (w.rest y ya yb)

    goes_same : (c : Colour) (k : Kind) → goes q c k x y ≡ goes p c k x y
    goes_same c King = refl
    goes_same c Queen = ap (λ t. (is_rook_line x y || is_bishop_line x y) && t) clear_same
    goes_same c Rook = ap (λ t. is_rook_line x y && t) clear_same
    goes_same c Bishop = ap (λ t. is_bishop_line x y && t) clear_same
    goes_same c Knight = refl
    goes_same c Pawn =
        ap (λ t. (t || steps q c x y) || (advances q c x y || takes_in_passing q c x y))
        (captures_same c)
        ∙ ap (λ t. (captures p c x y || t) || (advances q c x y || takes_in_passing q c x y))
        (steps_same c)
        ∙ ap (λ t. (captures p c x y || steps p c x y) || (t || takes_in_passing q c x y))
        (advances_same c)

  -- a step between squares without kings, with neither king between
  module _ (m : Step) (fa : m.from ≢ a) (fb : m.from ≢ b) (ta : m.to ≢ a) (tb : m.to ≢ b)
      (na : is_between m.from a m.to ≡ false) (nb : is_between m.from b m.to ≡ false) where
    man_same : (o : Option Man) → man_goes q o m ≡ man_goes p o m
    man_same None = refl
    man_same (Some man) =
        ap (λ t. t && promotes man.colour man.kind m.to m.promo)
        (goes_same m.from m.to ta tb na nb man.colour man.kind)

    pub can_same : can_go q m ≡ can_go p m
    can_same =
        ap (λ v. (is_man_of p.turn (man_of_cell v) && not (holds q p.turn m.to))
        && man_goes q (man_of_cell v) m) (w.rest m.from fa fb)
        ∙ ap (λ v. (holds p p.turn m.from && not (is_man_of p.turn (man_of_cell v)))
        && man_goes q (man_on p m.from) m) (w.rest m.to ta tb)
        ∙ ap (λ t. (holds p p.turn m.from && not (holds p p.turn m.to)) && t)
        (man_same (man_on p m.from))

  white_stands : has q White King a ≡ true
  white_stands = eq-eqb (slice_index q.cells a) (king_cell White) w.own

  black_stands : has q Black King b ≡ true
  black_stands = eq-eqb (slice_index q.cells b) (king_cell Black) w.other

  full_white : is_empty q a ≡ false
  full_white = ap (λ x. x == 0) w.own

  full_black : is_empty q b ≡ false
  full_black = ap (λ x. x == 0) w.other

  -- where a legal move goes, no king stands, and none between
  pub record Clear (m : Step) : Type 0 where
    pub to_white : m.to ≢ a
    pub to_black : m.to ≢ b
    pub past_white : is_between m.from a m.to ≡ false
    pub past_black : is_between m.from b m.to ≡ false

  pub legal_clear : (m : Step) → IsValid q → m.to < 64 → Move q m → Clear m
  legal_clear m v lt f = record {
    to_white = λ e. both_ways (has q White King m.to) (no_king_there q m v lt f White)
        (ap (has q White King) e ∙ white_stands);
    to_black = λ e. both_ways (has q Black King m.to) (no_king_there q m v lt f Black)
        (ap (has q Black King) e ∙ black_stands);
    past_white = goes_clear q a la full_white f.man.colour f.man.kind m.from m.to f.way;
    past_black = goes_clear q b lb full_black f.man.colour f.man.kind m.from m.to f.way;
  }

  off_way : (m : Step) (s : ℕ) → m.to ≢ s → is_between m.from s m.to ≡ false →
      not (is_on_way m s) ≡ true
  off_way m s ne past =
      not_from_false (is_on_way m s)
      (or_from (s == m.to) (is_between m.from s m.to)
      (false_from_ne_true (s == m.to) (λ e. ne (sym (eqb-true s m.to e)))) past)

  pub clear_leaves : (m : Step) → Clear m → leave_way m a b ≡ true
  clear_leaves m x =
      and_from (not (is_on_way m a)) (not (is_on_way m b)) (off_way m a x.to_white x.past_white)
      (off_way m b x.to_black x.past_black)

  on_way : (m : Step) (s : ℕ) → not (is_on_way m s) ≡ true →
      (m.to ≢ s) × (is_between m.from s m.to ≡ false)
  on_way m s h = (
    λ e. absurd (let t : (s == m.to) ≡ true = eq-eqb s m.to (sym e) in
        let n : not (is_on_way m s) ≡ false = ap (λ x. not (x || is_between m.from s m.to)) t in cc),
    false_from_ne_true (is_between m.from s m.to) (λ e. absurd (
        let n = off (s == m.to) (is_between m.from s m.to) e in cc)),
  )
    where
      off : (x y : Bool) → y ≡ true → not (x || y) ≡ false
      off true y e = refl
      off false y e = ap not e

  pub leaves_clear : (m : Step) → leave_way m a b ≡ true → Clear m
  leaves_clear m h =
      let parts = and_parts (not (is_on_way m a)) (not (is_on_way m b)) h in
      let white = on_way m a parts.0 in
      let black = on_way m b parts.1 in
      record {
        to_white = white.0;
        to_black = black.0;
        past_white = white.1;
        past_black = black.1;
      }
