-- A king makes its move, with the other king on the board.
use Rattle.std.proofs.Common.{◌≡◌, ◌≢◌, ℕ, ◌<◌, true, ◌&&◌, not, Option, None, Some, List, length, slice_index, get_or-set_same, get_or-set_other, refl, ap, sym, ◌∙◌, subst, arith}
use Rattle.std.specs.Prelude.{◌==◌, is_none}
use Rattle.std.proofs.lemmas.Bool.{and_from, and_parts, both_ways, eq-eqb, not-true, not_from_false}
use Rattle.frz_board.specs.declared.man.Colour.{Colour}
use Rattle.frz_board.specs.declared.man.Colour.TheVariants.{White, Black}
use Rattle.frz_board.specs.declared.man.Kind.{Kind}
use Rattle.frz_board.specs.declared.man.Kind.TheVariants.{King}
use Rattle.frz_board.specs.declared.man.Man.{Man}
use Rattle.frz_board.specs.Boards.{Board, has, holds, is_empty, man_on}
use Rattle.frz_board.specs.Lines.{is_king_step}
use Rattle.frz_board.specs.Men.{is_man_of, man_of_cell, other_of}
use Rattle.frz_board.specs.Moving.{Step, IsStep}
use Rattle.frz_board.proofs.Lemmas.{cell_forth}
use Rattle.frz_squares.proofs.Lemmas.{same_not}
use Rattle.frz_fide.specs.Legal.{after, after_man, can_go, is_legal, man_goes}
use Rattle.frz_fide.specs.Valid.{IsValid}
use Rattle.frz_fide.proofs.Lemmas.{facts, no_king_there, own_colour, valid_after}
use Rattle.frz_king_planes.specs.Kings.{are_free, king_cell, with_kings}
use Rattle.frz_king_planes.proofs.Lemmas.{Crowned, crowned, free_parts}
use Rattle.frz_pair_moves.specs.Moves.{IsKingMove, Makes, entered}
use Rattle.frz_pair_moves.proofs.Between.{king_leaves}
use Rattle.frz_pair_moves.proofs.Cells.{black_gone, white_gone}
use Rattle.frz_pair_moves.proofs.MenMoved.{legal_from, legal_goes, size_of}

abbrev king_of : Colour → Man
king_of c = record { colour = c; kind = King }

none_of : (promo : Option Kind) → is_none promo ≡ true → promo ≡ None
none_of None h = refl
none_of (Some k) h = absurd cc

-- q is p with the king of the side to move where m begins, and the other king on t
module _ (p q : Board) (m : Step) (t : ℕ) (lt : m.to < 64) (v : IsValid q)
    (w : Crowned p q p.turn m.from t) (turn : q.turn ≡ p.turn) where
  there : man_on q m.from ≡ Some (king_of p.turn)
  there = ap man_of_cell w.own ∙ cell_forth p.turn King

  own : holds q p.turn m.from ≡ true
  own = ap (is_man_of p.turn) there ∙ own_colour p.turn

  turned : (after q m).turn ≡ other_of q.turn
  turned = ap (λ o. (after_man q o m).turn) there

  can_turn : can_go q m
      ≡ ((holds q p.turn m.from && not (holds q p.turn m.to)) && man_goes q (man_on q m.from) m)
  can_turn =
      ap (λ c. (holds q c m.from && not (holds q c m.to)) && man_goes q (man_on q m.from) m) turn

  stands : (d : Colour) (s : ℕ) → slice_index q.cells s ≡ king_cell d → has q d King s ≡ true
  stands d s e = eq-eqb (slice_index q.cells s) (king_cell d) e

  pub goes_then : is_legal q m ≡ true → IsKingMove p m × (m.to ≢ t)
  goes_then h =
      let can = sym can_turn ∙ legal_goes q m h in
      let parts = and_parts (holds q p.turn m.from && not (holds q p.turn m.to))
      (man_goes q (man_on q m.from) m) can in
      let free = not-true (holds q p.turn m.to)
      (and_parts (holds q p.turn m.from) (not (holds q p.turn m.to)) parts.0).1 in
      let way = and_parts (is_king_step m.from m.to) (is_none m.promo)
      (ap (λ o. man_goes q o m) (sym there) ∙ parts.1) in
      let other : m.to ≢ t = λ e. both_ways (has q (other_of p.turn) King m.to)
      (no_king_there q m v lt (facts q m h) (other_of p.turn))
      (ap (has q (other_of p.turn) King) e ∙ stands (other_of p.turn) t w.other) in (
        record {
          promo = none_of m.promo way.1;
          step = way.0;
          free = ap (λ x. is_man_of p.turn (man_of_cell x))
              (sym (w.rest m.to (king_leaves m.from m.to way.0) other)) ∙ free;
        },
        other,
      )

  pub then_legal : IsKingMove p m → m.to ≢ t → IsValid (after q m) → is_legal q m ≡ true
  then_legal g other valid =
      let free = ap (λ x. is_man_of p.turn (man_of_cell x))
      (w.rest m.to (king_leaves m.from m.to g.step) other) ∙ g.free in
      legal_from q m turned
      (can_turn
      ∙ and_from (holds q p.turn m.from && not (holds q p.turn m.to))
      (man_goes q (man_on q m.from) m)
      (and_from (holds q p.turn m.from) (not (holds q p.turn m.to)) own
      (not_from_false (holds q p.turn m.to) free))
      (ap (λ o. man_goes q o m) there
      ∙ and_from (is_king_step m.from m.to) (is_none m.promo) g.step (ap is_none g.promo)))
      valid

-- the square that a king enters, and one that was empty, are free behind it
free_there : (p : Board) (s t : ℕ) → length p.cells ≡ 64 → s < 64 → slice_index p.cells t ≡ 0 →
    s ≢ t → (slice_index (entered p s).cells s ≡ 0) × (slice_index (entered p s).cells t ≡ 0)
free_there p s t size ls none ne = (
  get_or-set_same p.cells s 0 0 (omega arith),
  get_or-set_other p.cells s t 0 0 (λ e. ne (sym e)) ∙ none,
)

are_both : (q : Board) (a b : ℕ) → a ≢ b → slice_index q.cells a ≡ 0 → slice_index q.cells b ≡ 0 →
    are_free q a b ≡ true
are_both q a b ne ea eb =
    and_from (not (a == b)) (is_empty q a && is_empty q b) (same_not a b ne)
    (and_from (is_empty q a) (is_empty q b) (eq-eqb (slice_index q.cells a) 0 ea)
    (eq-eqb (slice_index q.cells b) 0 eb))

-- White's king goes, Black's stands on b
module _ (p : Board) (m : Step) (b : ℕ) (step : IsStep m) (lb : b < 64) (white : p.turn ≡ White)
    (made : Makes p m.from b) where
  size : length p.cells ≡ 64
  size = size_of p m.from b made.valid

  view : Crowned p (with_kings p m.from b) p.turn m.from b
  view =
      subst (λ c. Crowned p (with_kings p m.from b) c m.from b) (sym white)
      (crowned p m.from b White size step.from lb made.free)

  pub white_after : IsKingMove p m → m.to ≢ b → after (with_kings p m.from b) m ≡ with_kings (entered p m.to) m.to b
  white_after g other =
      let q = with_kings p m.from b in
      let F : Option Kind → Board = λ promo.
      after_man q (Some (king_of White)) (record m { promo = promo }) in
      let G : List ℕ → Board = λ xs. record { cells = xs; turn = other_of p.turn; ep = None } in
      let parts = free_parts p m.from b made.free in
      ap (λ o. after_man q o m) (there p q m b step.to made.valid view refl ∙ ap (λ c. Some (king_of c)) white)
      ∙ ap F g.promo
      ∙ ap G (white_gone p.cells m.from b (king_cell White) (king_cell Black) m.to parts.white
      parts.apart other)

  pub white_legal : is_legal (with_kings p m.from b) m ≡ true →
      IsKingMove p m × Makes (entered p m.to) m.to b
  white_legal h =
      let g = goes_then p (with_kings p m.from b) m b step.to made.valid view refl h in
      let parts = free_parts p m.from b made.free in
      let free = free_there p m.to b size step.to parts.black g.1 in (
        g.0,
        record {
          free = are_both (entered p m.to) m.to b g.1 free.0 free.1;
          valid = subst IsValid (white_after g.0 g.1)
              (valid_after (with_kings p m.from b) m made.valid step.to h);
        },
      )

  pub legal_white : IsKingMove p m → Makes (entered p m.to) m.to b →
      is_legal (with_kings p m.from b) m ≡ true
  legal_white g next =
      let apart = (free_parts (entered p m.to) m.to b next.free).apart in
      then_legal p (with_kings p m.from b) m b step.to made.valid view refl g apart
      (subst IsValid (sym (white_after g apart)) next.valid)

-- Black's king goes, White's stands on a
module _ (p : Board) (m : Step) (a : ℕ) (step : IsStep m) (la : a < 64) (black : p.turn ≡ Black)
    (made : Makes p a m.from) where
  size_black : length p.cells ≡ 64
  size_black = size_of p a m.from made.valid

  view_black : Crowned p (with_kings p a m.from) p.turn m.from a
  view_black =
      subst (λ c. Crowned p (with_kings p a m.from) c m.from a) (sym black)
      (crowned p a m.from Black size_black la step.from made.free)

  pub black_after : IsKingMove p m → m.to ≢ a → after (with_kings p a m.from) m ≡ with_kings (entered p m.to) a m.to
  black_after g other =
      let q = with_kings p a m.from in
      let F : Option Kind → Board = λ promo.
      after_man q (Some (king_of Black)) (record m { promo = promo }) in
      let G : List ℕ → Board = λ xs. record { cells = xs; turn = other_of p.turn; ep = None } in
      let parts = free_parts p a m.from made.free in
      ap (λ o. after_man q o m)
      (there p q m a step.to made.valid view_black refl ∙ ap (λ c. Some (king_of c)) black)
      ∙ ap F g.promo
      ∙ ap G (black_gone p.cells a m.from (king_cell White) (king_cell Black) m.to parts.black
      parts.apart other)

  pub black_legal : is_legal (with_kings p a m.from) m ≡ true →
      IsKingMove p m × Makes (entered p m.to) a m.to
  black_legal h =
      let g = goes_then p (with_kings p a m.from) m a step.to made.valid view_black refl h in
      let parts = free_parts p a m.from made.free in
      let free = free_there p m.to a size_black step.to parts.white g.1 in (
        g.0,
        record {
          free = are_both (entered p m.to) a m.to (λ e. g.1 (sym e)) free.1 free.0;
          valid = subst IsValid (black_after g.0 g.1)
              (valid_after (with_kings p a m.from) m made.valid step.to h);
        },
      )

  pub legal_black : IsKingMove p m → Makes (entered p m.to) a m.to →
      is_legal (with_kings p a m.from) m ≡ true
  legal_black g next =
      let apart : m.to ≢ a = λ e. (free_parts (entered p m.to) a m.to next.free).apart (sym e) in
      then_legal p (with_kings p a m.from) m a step.to made.valid view_black refl g apart
      (subst IsValid (sym (black_after g apart)) next.valid)
